mod Relates
mod Table
