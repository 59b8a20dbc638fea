mod Cases
mod Others
mod Reading
