mod Callers
mod Deciding
mod Histories
mod Loaded
mod OneLoad
