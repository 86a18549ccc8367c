mod Gain
mod Placed
