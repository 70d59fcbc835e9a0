mod Scanning
mod Named
