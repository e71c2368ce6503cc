pub mod Alike
pub mod Output
pub mod Printed
pub mod Retagged
pub mod Said
pub mod Strings
