-- What the data accesses' parts promise.
pub mod Access
-- How the tests in their order are the rules', in both layouts, and what is behind the gate.
pub mod Gates
pub mod Behind
