-- The bytes of a question and the operations on them, in reading order.
-- the limits of document 01
pub mod Limits
-- a refusal by a check's number, or a result
pub mod Answer
-- the bytes of a term, and names in scope
pub mod Encoding
-- the two editions: the version byte, and the bytes of a term
pub mod Edition
-- a term read from its bytes: checks 7, 8, 16 and 9
pub mod Reading
-- checks 10 and 11
pub mod Grammar
-- the fields of a question: checks 3 to 6
pub mod Framing
-- a question, all of its checks, and its writing
pub mod Question
-- what an accepted question is
pub mod WellFormed
-- merge, beside and declaring
pub mod Operations
