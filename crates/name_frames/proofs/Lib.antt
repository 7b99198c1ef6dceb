mod Only
mod Places
