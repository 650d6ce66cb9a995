mod Behind
mod Small
mod Parsed
mod Faulty
mod Named
