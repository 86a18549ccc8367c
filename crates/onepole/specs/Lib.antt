pub mod OnePole
