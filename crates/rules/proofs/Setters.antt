-- Each setter of a register, and of a field of the pool, changes its own field and no other: a table of each, computed.
use mathlib.Core.Path.{◌≡◌, refl}
use mathlib.Core.Bool.{Bool}
use mathlib.Core.List.{List, [], ◌∷◌, map}
use Prim.Native.Nat.{ℕ}
use lib.ListN.{set}
use Rattle.rules.specs.Chip.{Link, Registers, Layout, Pool}
use Rattle.rules.specs.Fields.{set_tcr, set_ephsr, set_ecr, set_tx_empty, set_rcr, set_reserved, set_station, set_table, set_overrun, set_bank, set_packet, set_result, set_waiting, set_pointer, set_control, set_mask, set_link, set_pages, set_rx, set_tx, set_completion}

-- what a field holds
pub data Field : Type 0 where
  number : ℕ → Field
  latch : Bool → Field
  bytes : List ℕ → Field
  lists : List (List ℕ) → Field
  laid : Layout → Field
  linked : Link → Field

-- all fields of the registers, and of the pool
abbrev pub fields : Registers → List Field
fields r =
    number r.sending.tcr ∷ number r.sending.ephsr ∷ number r.sending.ecr ∷ latch r.sending.tx_empty
    ∷ number r.receiving.rcr ∷ number r.receiving.reserved ∷ bytes r.receiving.station ∷ bytes r.receiving.table ∷ latch r.receiving.overrun
    ∷ number r.numbers.bank ∷ number r.numbers.packet ∷ number r.numbers.result ∷ number r.numbers.waiting
    ∷ number r.pointer ∷ number r.control ∷ number r.mask ∷ linked r.link ∷ []

abbrev pub pool_fields : Pool → List Field
pool_fields q = lists q.pages ∷ bytes q.rx ∷ bytes q.tx ∷ bytes q.completion ∷ laid q.layout ∷ []

-- a setter's row: the fields after it, and the place and content of the one that it sets
pub record Row : Type 0 where
  pub after : List Field
  pub place : ℕ
  pub content : Field

abbrev pub row : List Field → ℕ → Field → Row
row after place content = record { after = after; place = place; content = content }

abbrev pub rows : Registers → ℕ → Bool → List ℕ → Link → List Row
rows r x b l k =
    row (fields (set_tcr x r)) 0 (number x)
    ∷ row (fields (set_ephsr x r)) 1 (number x)
    ∷ row (fields (set_ecr x r)) 2 (number x)
    ∷ row (fields (set_tx_empty b r)) 3 (latch b)
    ∷ row (fields (set_rcr x r)) 4 (number x)
    ∷ row (fields (set_reserved x r)) 5 (number x)
    ∷ row (fields (set_station l r)) 6 (bytes l)
    ∷ row (fields (set_table l r)) 7 (bytes l)
    ∷ row (fields (set_overrun b r)) 8 (latch b)
    ∷ row (fields (set_bank x r)) 9 (number x)
    ∷ row (fields (set_packet x r)) 10 (number x)
    ∷ row (fields (set_result x r)) 11 (number x)
    ∷ row (fields (set_waiting x r)) 12 (number x)
    ∷ row (fields (set_pointer x r)) 13 (number x)
    ∷ row (fields (set_control x r)) 14 (number x)
    ∷ row (fields (set_mask x r)) 15 (number x)
    ∷ row (fields (set_link k r)) 16 (linked k)
    ∷ []

abbrev pub pool_rows : Pool → List (List ℕ) → List ℕ → List Row
pool_rows q ls l =
    row (pool_fields (set_pages ls q)) 0 (lists ls)
    ∷ row (pool_fields (set_rx l q)) 1 (bytes l)
    ∷ row (pool_fields (set_tx l q)) 2 (bytes l)
    ∷ row (pool_fields (set_completion l q)) 3 (bytes l)
    ∷ []

-- the row with what it must say: the fields before, with this one replaced
abbrev pub replacing : List Field → Row → Row
replacing before x = row (set before x.place x.content) x.place x.content

pub registers_alone : (r : Registers) (x : ℕ) (b : Bool) (l : List ℕ) (k : Link) → rows r x b l k ≡ map (replacing (fields r)) (rows r x b l k)
registers_alone r x b l k = refl

pub pool_alone : (q : Pool) (ls : List (List ℕ)) (l : List ℕ) → pool_rows q ls l ≡ map (replacing (pool_fields q)) (pool_rows q ls l)
pool_alone q ls l = refl
