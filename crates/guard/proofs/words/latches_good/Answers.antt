-- The four numbers with no bit but 2 and 4.
use Rattle.std.proofs.Common.{◌≡◌, refl, ℕ, ◌+◌, ◌*◌, Bool, true, false, ◌⊎◌, inl, inr, arith}
use Rattle.rules.specs.Bits.{bit, flag}
use Rattle.lists.specs.Facts.{always}
use Rattle.sets.specs.Good.{never}
use Rattle.state.specs.View.{Latches}
use Rattle.guard.proofs.words.latches_good.Goals as goal

one_of : (x : ℕ) → Latches x → (x ≡ 0) ⊎ (x ≡ 4) ⊎ (x ≡ 16) ⊎ (x ≡ 20)
unfolding flag
one_of x l = go (bit 2 x) (bit 4 x) l
  where
    go : (a b : Bool) → x ≡ 4 * flag a + 16 * flag b → (x ≡ 0) ⊎ (x ≡ 4) ⊎ (x ≡ 16) ⊎ (x ≡ 20)
    go false false e = inl e
    go true false e = inr (inl e)
    go false true e = inr (inr (inl e))
    go true true e = inr (inr (inr e))

pub returns-in-0 : goal.returns-in-0
unfolding bit flag
returns-in-0 c = always (elim c.in-0.is [ inl e ↦ rw e refl | inr o ↦ elim o [ inl e ↦ rw e refl | inr p ↦ elim p [ inl e ↦ rw e refl | inr e ↦ rw e refl ] ] ])

pub returns-in_default : goal.returns-in_default
returns-in_default c = never (λ l. let o = one_of c.args.x l in grind arith)
