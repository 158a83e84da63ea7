-- Where a promise is no equation of the result, it leaves one result still.
use Rattle.std.specs.Prelude.{◌≡◌, refl, List, ℕ}
use Rattle.std.proofs.Common.{ap, sym, ◌∙◌}
use Rattle.rules.specs.Registers as rules
use Rattle.state.specs.declared.Width.{Width}
use Rattle.state.specs.declared.Width.TheVariants as width
use Rattle.state.specs.Meaning.{width_of}
use Rattle.state.proofs.Only.{started_once}
use Rattle.lent.specs.Lent.{StartsPart}

-- A width is known from that of the rules.
width_back : rules.Width → Width
width_back rules.byte = width.Byte
width_back rules.word = width.Word

width_back_lem : (x : Width) → width_back (width_of x) ≡ x
unfolding width_back
width_back_lem width.Byte = refl
width_back_lem width.Word = refl

pub width_once : (x y : Width) → width_of x ≡ width_of y → x ≡ y
width_once x y e = sym (width_back_lem x) ∙ ap width_back e ∙ width_back_lem y

-- A part at power-up: record and memory.
pub starts_part_once : {k : ℕ} {mem w₁ s₁ q₁ mem₁ w₂ s₂ q₂ mem₂ : List ℕ} → StartsPart k mem w₁ s₁ q₁ mem₁ → StartsPart k mem w₂ s₂ q₂ mem₂ → (w₁ ≡ w₂) × (s₁ ≡ s₂) × (q₁ ≡ q₂) × (mem₁ ≡ mem₂)
starts_part_once x y = let e = started_once x.state y.state in (e.1, e.2, e.3, x.memory ∙ sym y.memory)
