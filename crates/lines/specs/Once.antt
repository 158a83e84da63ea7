-- Each function that the crate exports has one result: two that meet its promise are equal. (`counter_of` and `next` promise the result itself, by `counter_of`.)
use Rattle.std.specs.Prelude.{◌≡◌, List, ℕ}
use Rattle.std.proofs.Common.{sym, ◌∙◌}
use Rattle.lists.specs.Written.{Writes}

-- The line that is written, and the place behind it.
pub writes_once : {before bytes after after' : List ℕ} {at end end' : ℕ} → Writes before at bytes after end → Writes before at bytes after' end' → (after ≡ after') × (end ≡ end')
writes_once x y = (x.buffer ∙ sym y.buffer, x.place ∙ sym y.place)
