mod Welding
