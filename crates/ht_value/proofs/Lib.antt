mod Agreeing
mod Clamping
mod Examples
