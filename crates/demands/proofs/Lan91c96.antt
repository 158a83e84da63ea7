-- The LAN91C96, document 01's part: 24 packets and pages, 6,144 bytes. The demands and the promises, each cited with its number.
use Rattle.std.specs.Prelude.{refl}
use Rattle.std.proofs.Common.{inr}
use Rattle.rules.specs.Parts.{lan91c96, IsPart}
use Rattle.demands.specs.Demands.{Demand1, Demand2, Demand3, BesidePages, FrameCheck, WhateverLink, PayloadBlind}
use Rattle.demands.proofs.Demands as proved

part : IsPart lan91c96
part = inr refl

pub demand1 : Demand1 lan91c96
demand1 = proved.demand1 part

pub demand2 : Demand2 lan91c96
demand2 = proved.demand2 part

pub demand3 : Demand3 lan91c96
demand3 = proved.demand3 part

pub beside_pages : BesidePages lan91c96
beside_pages = proved.beside_pages part

pub frame_check : FrameCheck lan91c96
frame_check = proved.frame_check part

pub whatever_link : WhateverLink lan91c96
whatever_link = proved.whatever_link part

pub payload_blind : PayloadBlind lan91c96
payload_blind = proved.payload_blind part
