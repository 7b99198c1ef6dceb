mod Alone
mod Afters
mod Places
