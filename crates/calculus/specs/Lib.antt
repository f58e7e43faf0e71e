-- Chapter 4 of document 000, in reading order.
-- terms in de Bruijn form, and substitution
pub mod Term
-- free names
pub mod Free
-- definitions, and a body opened by a call
pub mod Definitions
-- finite control, section 4.8
pub mod FiniteControl
-- conditions, implication and canonical form
pub mod Cond
-- Table 4.1 and rule Canon
pub mod Published
-- distinctions, and how a step changes them: Definitions 12 and 15
pub mod Distinction
-- open bisimulation: Definition 13
pub mod OpenBisimulation
-- parts with their pieces in another order: request 2026-07
pub mod Rearranged
-- a pair of parts inside a larger exchange: request 2026-13
pub mod Inside
-- a part without the restrictions that bind nothing: request 2026-04
pub mod Tidy
-- actions with their bound name as the innermost binder, for candidates of a step
pub mod Abstraction
-- members of a list
pub mod Lists
