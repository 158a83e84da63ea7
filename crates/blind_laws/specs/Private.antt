-- Which bytes of memory are private: those that a stored frame left from its byte 6 on, and that nothing has been put over since. It is told from one run alone, so that a client knows before another run what is promised of it.
-- Where no send looks at a private byte, what each send looks at agrees in every run alike.
use Rattle.std.specs.Prelude.{◌≡◌, Bool, true, false, cond, List, [], ◌∷◌, ◌++◌, ℕ, suc, ◌-◌, ◌≤◌, eqb, length, replicate}
use Rattle.rules.specs.Chip.{Chip}
use Rattle.rules.specs.Packet.{place}
use Rattle.rules.specs.Receive.{Frame, Arrival, stored, disabled, not_accepted, too_long, bad, no_room, data_length, trailer, verdict}
use Rattle.rules.specs.Step.{Input, driver, frame, sent, link, step_of}
use Rattle.laws.specs.Head.{head_pages, head_count}
use Rattle.laws.specs.Sendable.{Reaches}
use Rattle.blind_laws.specs.Alike.{Usable}
use Rattle.blind_laws.specs.Puts.{put_by}

-- is the byte at this place of memory private
abbrev pub Private : Type 0
Private = ℕ → Bool

-- at power-up none is
abbrev pub none_private : Private
none_private x = false

-- a byte is put at a place: it is private from now on, or it is not
abbrev pub noted : ℕ → Bool → Private → Private
noted k isPrivate p x = cond (eqb x k) isPrivate (p x)

-- bytes are put into these pages from address a on, each private or not
unfoldable pub noted_all : List Bool → ℕ → List ℕ → Private → Private
noted_all [] a pages p = p
noted_all (b ∷ bs) a pages p = noted_all bs (suc a) pages (noted (place pages a) b p)

-- of a stored frame of n data bytes: status, count and its first six bytes are not private, the data behind them is, and the trailer is not
abbrev pub hidden : ℕ → List Bool
hidden n = replicate 10 false ++ replicate (n - 6) true ++ replicate (length (trailer n)) false

abbrev pub hidden_in : Arrival → Frame → Chip → List Bool
hidden_in stored f c = hidden (data_length c.regs (length f.bytes))
hidden_in disabled f c = []
hidden_in not_accepted f c = []
hidden_in too_long f c = []
hidden_in bad f c = []
hidden_in no_room f c = []

-- of what an input puts, each byte: a data write and a status word put none that is private
abbrev pub hidden_by : Input → Chip → List Bool
hidden_by (driver a) c = replicate (length (put_by (driver a) c).bytes) false
hidden_by (frame f) c = hidden_in (verdict f c) f c
hidden_by (sent s out) c = replicate (length (put_by (sent s out) c).bytes) false
hidden_by (link x) c = []

-- what is private after an input, of a chip with n packets: a refusal puts nothing
unfoldable pub private_after : ℕ → Input → Chip → Private → Private
private_after n i c p = cond (eqb (step_of n i c).reply.number 0) (noted_all (hidden_by i c) (put_by i c).at (put_by i c).pages p) p

-- and after inputs, one after another
abbrev pub private_by : ℕ → List Input → Chip → Private → Private
private_by n [] c p = p
private_by n (i ∷ is) c p = private_by n is (step_of n i c).chip (private_after n i c p)

-- of the TX head bytes 2 to 9 are not private, and its control byte is not where the count is usable
pub record HeadOpen (c : Chip) (p : Private) : Type 0 where
  pub bytes : (a : ℕ) → 2 ≤ a → a ≤ 9 → p (place (head_pages c) a) ≡ false
  pub control : Usable c → p (place (head_pages c) (head_count c - 1)) ≡ false

-- at each send that comes to a count
abbrev pub SendOpen : Input → Chip → Private → Type 0
SendOpen (driver a) c p = Unit {0}
SendOpen (frame f) c p = Unit {0}
SendOpen (sent s out) c p = Reaches s c out → HeadOpen c p
SendOpen (link x) c p = Unit {0}

abbrev pub SendsOpen : ℕ → List Input → Chip → Private → Type 0
SendsOpen n [] c p = Unit {0}
SendsOpen n (i ∷ is) c p = SendOpen i c p × SendsOpen n is (step_of n i c).chip (private_after n i c p)
