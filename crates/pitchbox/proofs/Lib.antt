mod Wholes
mod Examines
