mod BigEndian
mod Hexadecimal
