mod Turns
mod Stages
mod Marking
mod Trying
