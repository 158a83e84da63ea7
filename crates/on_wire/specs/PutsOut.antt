-- What is put out stands at the front of a buffer.
use Rattle.std.specs.Prelude.{◌≡◌, List, ℕ, length}
use Rattle.std.proofs.Common.{sym, ◌∙◌}
use Rattle.rules.specs.Answers.{over}

-- the bytes are put out over the front of a buffer, and their number is returned
pub record PutsOut (bytes before after : List ℕ) (n : ℕ) : Type 0 where
  pub value : n ≡ length bytes
  pub output : after ≡ over bytes before

pub puts_once : {bytes before after after' : List ℕ} {n n' : ℕ} → PutsOut bytes before after n → PutsOut bytes before after' n' → (n ≡ n') × (after ≡ after')
puts_once x y = (x.value ∙ sym y.value, x.output ∙ sym y.output)
