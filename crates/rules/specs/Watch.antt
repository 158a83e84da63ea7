-- The program "watch", which document 01 does not have: the bench's records in, and on each line more of what the chip does.
use Rattle.std.specs.Prelude.{Bool, true, false, cond, ◌&&◌, List, [], ◌∷◌, ◌++◌, ℕ, ◌+◌, ◌/◌, ◌%◌, eqb, length, take}
use Rattle.rules.specs.Bits.{flag}
use Rattle.rules.specs.Answers.{Reply}
use Rattle.rules.specs.Interrupts.{line_up}
use Rattle.rules.specs.Bench.{Event, access, wire, frame_ends, send, link_set, part, unknown, Form, columns, hex_digit, printed, started}

-- is it a send
unfoldable pub is_send : Event → Bool
is_send (access a) = false
is_send (wire count bytes) = false
is_send (frame_ends align) = false
is_send (send s) = true
is_send (link_set x) = false
is_send (part x) = false
is_send unknown = false

-- bytes as lower-case hex digits, two for each
unfoldable pub hex_bytes : List ℕ → List ℕ
hex_bytes [] = []
hex_bytes (x ∷ xs) = hex_digit (x / 16 % 16) ∷ hex_digit (x % 16) ∷ hex_bytes xs

-- for a send that is done, a space and the bytes put out: the first of the output buffer, as many as the value says
unfoldable pub put_out : Bool → Reply → List ℕ → List ℕ
put_out sent r output = cond (sent && eqb r.number 0) (0x20 ∷ hex_bytes (take r.value output)) []

-- behind the value: a space and the interrupt line (0 or 1), the bytes put out, and the line's end
abbrev pub more : Reply → Bool → Bool → List ℕ → List ℕ
more r up sent output = (0x20 ∷ (0x30 + flag up) ∷ []) ++ put_out sent r output ++ (0x0a ∷ [])

-- before it: what the bench's line has
unfoldable pub watch_line : ℕ → Reply → Bool → Bool → List ℕ → List ℕ
watch_line number r up sent output = columns number r ++ more r up sent output

-- the interrupt line and the output buffer are those after the record, also where the answer is 17
abbrev pub watched : Form
watched number e a = watch_line number a.reply (line_up a.after.chip) (is_send e) a.after.output

-- what the program prints for its standard input
abbrev pub watch : List ℕ → List ℕ
watch input = printed watched (length input) 1 input started
