-- Slots of a queue whose entries are moved up by one.
use Rattle.std.proofs.Common.{◌≡◌, ℕ, suc, ◌+◌, ◌-◌, ◌<◌, List, ◌∷◌, ◌++◌, length, take, drop, get_or, set, ap, sym, ◌∙◌, add-one, arith, length-drop, length-take-le, drop-cons, get_or-drop}
use Rattle.std.proofs.lemmas.List.{set_at}
use Rattle.std.proofs.Math.Seq.{take-suc, append_snoc, get_or-append-add}

-- i entries have moved up
unfoldable pub moved : List ℕ → ℕ → List ℕ
moved old i = take i (drop 1 old) ++ drop i old

-- one more: whatever stood in its place
pub move : (old s : List ℕ) (i x : ℕ) → i + 1 < length old → s ≡ take i (drop 1 old) ++ (x ∷ drop (suc i) old) → set s i (get_or s (i + 1) 0) ≡ moved old (i + 1)
unfolding moved
move old s i x h opened =
    let d = drop 1 old in
    let rest = drop (suc i) old in
    let a = get_or d i 0 in
    let long : length d ≡ length old - 1 = length-drop 1 old in
    let near : i < length d = omega arith in
    let short : length (take i d) ≡ i = length-take-le i d (omega arith) in
    let behind : i + 1 ≡ length (take i d) + 1 = omega arith in
    let same : suc i + 0 ≡ 1 + i = omega arith in
    let next : get_or s (i + 1) 0 ≡ a =
    ap (λ (t : List ℕ). get_or t (i + 1) 0) opened ∙ ap (λ (n : ℕ). get_or (take i d ++ x ∷ rest) n 0) behind
    ∙ get_or-append-add (take i d) (x ∷ rest) 1 0 ∙ get_or-drop (suc i) old 0 0 ∙ ap (λ (n : ℕ). get_or old n 0) same ∙ sym (get_or-drop 1 old i 0) in
    ap (λ (y : ℕ). set s i y) next ∙ ap (λ (t : List ℕ). set t i a) opened ∙ set_at (take i d) x rest a i short
    ∙ rw (add-one i, take-suc d i 0 near) (sym (append_snoc (take i d) a rest))

-- and a 0 stands behind them
pub last_cleared : (old s : List ℕ) (k : ℕ) → k < length old → s ≡ moved old k → set s k 0 ≡ take k (drop 1 old) ++ (0 ∷ drop (suc k) old)
unfolding moved
last_cleared old s k h e =
    let d = drop 1 old in
    let short : length (take k d) ≡ k = length-take-le k d (omega (arith, length-drop 1 old)) in
    ap (λ (t : List ℕ). set t k 0) (e ∙ ap (λ (t : List ℕ). take k d ++ t) (drop-cons old k 0 h)) ∙ set_at (take k d) (get_or old k 0) (drop (suc k) old) 0 k short
