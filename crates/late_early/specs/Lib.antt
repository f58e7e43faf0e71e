-- Chapter 3 of document 000, in reading order.
-- Table 3.1
pub mod Concrete
-- late and early bisimulation: Definitions 7 to 10
pub mod LateEarly
