mod FreePages
mod Placing
mod Bases
