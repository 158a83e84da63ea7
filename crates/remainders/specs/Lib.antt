-- Facts of the rules' remainder (`rules/specs/Crc`), for the laws and for the code.
-- It has 32 bits, and the hash six.
pub mod Bounds
-- It is linear.
pub mod Xor
pub mod Linear
-- As it goes out, its bits stand in the other order.
pub mod Mirror
-- Each of its steps is one-to-one.
pub mod OneToOne
