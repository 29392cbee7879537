mod Exhaust
mod Sole
mod Readings
mod Distances
mod Words
mod Theorem
