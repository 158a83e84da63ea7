-- The LAN91C94, document 02, W9: "18 pages, packets 0 to 17, 4,608 bytes". The demands and the promises, each cited with its number.
use Rattle.std.specs.Prelude.{refl}
use Rattle.std.proofs.Common.{inl}
use Rattle.rules.specs.Parts.{lan91c94, IsPart}
use Rattle.demands.specs.Demands.{Demand1, Demand2, Demand3, BesidePages, FrameCheck, WhateverLink, PayloadBlind}
use Rattle.demands.proofs.Demands as proved

part : IsPart lan91c94
part = inl refl

pub demand1 : Demand1 lan91c94
demand1 = proved.demand1 part

pub demand2 : Demand2 lan91c94
demand2 = proved.demand2 part

pub demand3 : Demand3 lan91c94
demand3 = proved.demand3 part

pub beside_pages : BesidePages lan91c94
beside_pages = proved.beside_pages part

pub frame_check : FrameCheck lan91c94
frame_check = proved.frame_check part

pub whatever_link : WhateverLink lan91c94
whatever_link = proved.whatever_link part

pub payload_blind : PayloadBlind lan91c94
payload_blind = proved.payload_blind part
