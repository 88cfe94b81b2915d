mod Opened
mod Runs
mod Taking
