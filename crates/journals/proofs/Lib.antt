mod Writing
mod Shown
mod Reported
