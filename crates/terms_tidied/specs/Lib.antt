pub mod TidiedBodies
