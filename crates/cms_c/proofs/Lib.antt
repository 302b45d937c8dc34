mod Prefixes
mod Rooms
mod Conversions
mod Accepting
mod Extents
