-- The steps of a part and their list, in reading order.
-- the most steps, and the bytes of one
pub mod Limits
-- the candidates of a term by Table 4.1
pub mod Raw
-- the test of the limit on what a call reaches
pub mod CallLimit
-- the form of a result
pub mod Forms
-- a step as it is listed
pub mod Listed
-- the list: order, duplicates, limits
pub mod Listing
-- what the list must be: the steps that Table 4.1 with Canon derives
pub mod Derived
-- what listing answers and leaves in its area
pub mod Operations
