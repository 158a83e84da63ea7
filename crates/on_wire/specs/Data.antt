-- A packet's data, put over the front of a buffer and ended there, is what a send puts out: the same of pages and of strips.
use Rattle.std.specs.Prelude.{◌≡◌, Bool, true, false, cond, List, ◌++◌, ℕ, ◌+◌, ◌-◌, ◌≤◌, length, take, drop, replicate}
use Rattle.std.proofs.Common.{ap, ap₂, sym, ◌∙◌, arith, length-append, take_at, drop-drop}
use Rattle.std.proofs.Math.Seq.{drop-append-add}
use Rattle.rules.specs.Bits.{bit}
use Rattle.rules.specs.Answers.{over}
use Rattle.rules.specs.Packet.{get_bytes}
use Rattle.rules.specs.Crc.{fcs}
use Rattle.rules.specs.Data.{value_of}
use Rattle.rules.specs.Send.{send_length, control_byte, appends, padded, ended, on_wire, put_out}
use Rattle.lists.specs.Bytes.{length_get, value_first}
use Rattle.on_wire.specs.PutsOut.{PutsOut}

-- Bytes hide a front that is no longer than they are.
over_again : (front bytes buffer : List ℕ) → length front ≤ length bytes → over bytes (over front buffer) ≡ over bytes buffer
over_again front bytes buffer h =
    let n = length front in
    let j = length bytes - n in
    let e : length bytes ≡ n + j = omega arith in
    ap (λ (l : List ℕ). bytes ++ l)
    (ap (λ (i : ℕ). drop i (over front buffer)) e ∙ drop-append-add front (drop n buffer) j ∙ drop-drop j n buffer ∙ ap (λ (i : ℕ). drop i buffer) (sym e))

-- What goes out begins with the data.
appended_longer : (b : Bool) (bytes more : List ℕ) → length bytes ≤ length (cond b (bytes ++ more) bytes)
appended_longer true bytes more = omega (arith, length-append bytes more)
appended_longer false bytes more = omega arith

wire_longer : (tcr control : ℕ) (bytes : List ℕ) → length bytes ≤ length (on_wire tcr control bytes)
unfolding on_wire padded ended
wire_longer tcr control bytes =
    let f = appends tcr control in
    let l = padded f tcr bytes in
    omega (arith, appended_longer (bit 7 tcr) bytes (replicate (cond f 60 64 - length bytes) 0), appended_longer f l (fcs l))

-- So n bytes of a packet's data, put over the front of a buffer and then ended there, are what a send puts out; `control` is its control byte.
pub puts_data : (tcr count : ℕ) (pages m : List ℕ) (control n : ℕ) (out : List ℕ) {first after : List ℕ} {v : ℕ} → control ≡ value_of (get_bytes 1 (count - 1) pages m)
    → n ≡ send_length count control → first ≡ over (get_bytes n 4 pages m) out → PutsOut (on_wire tcr control (take n first)) first after v → PutsOut (put_out tcr count pages m) out after v
unfolding put_out control_byte
puts_data tcr count pages m control n out {first} c e o p =
    let bytes = get_bytes n 4 pages m in
    let front : take n first ≡ bytes = ap (take n) o ∙ take_at bytes (drop (length bytes) out) n (length_get n 4 pages m) in
    let last = c ∙ value_first (count - 1) pages m in
    let all : on_wire tcr control bytes ≡ put_out tcr count pages m = ap₂ (λ (x k : ℕ). on_wire tcr x (get_bytes k 4 pages m)) last (e ∙ ap (send_length count) last) in
    record {
      value = p.value ∙ ap (λ (l : List ℕ). length (on_wire tcr control l)) front ∙ ap length all;
      output =
          p.output
          ∙ ap₂ (λ (l x : List ℕ). over (on_wire tcr control l) x) front o
          ∙ over_again bytes (on_wire tcr control bytes) out (wire_longer tcr control bytes)
          ∙ ap (λ (l : List ℕ). over l out) all;
    }
