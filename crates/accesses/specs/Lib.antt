-- What an access moves of the data register; where its register stands, and what it then is in the rules: in both layouts.
pub mod Lanes
pub mod Reach
pub mod Places
