-- What `joined` gives is the joined sets and their sum, which decide all but the number of pages of each set.
use Rattle.std.proofs.Common.{◌≡◌, ℕ, ◌-◌, ◌*◌, ◌^◌, ◌<◌, ◌≤◌, ◌≢◌, Fits, w32, [], ◌%◌, refl, map, length, count_ones, slice_index, Bool, List, false, true≢false, sym, ap, ◌∙◌, subst, le_trans, arith, pow_pos, pow_mono, ⊎_elim}
use Rattle.std.proofs.lemmas.Nat.{ones-le}
use Rattle.rules.specs.Lists.{free_below}
use Rattle.rules.specs.Bits.{bit}
use Rattle.rules.specs.WellFormed.{GoodPages}
use Rattle.lists.specs.Facts.{Decides, always}
use Rattle.sets.specs.declared.map.Rows.{Rows}
use Rattle.sets.specs.Views.{pages_of}
use Rattle.sets.specs.Joins.{Joins, FewEach, join4, joined, total, join_all, sum_all, few_all, ones_joined, joined_owned, free_rest}
use Rattle.sets.specs.Good.{joined_high, sum_other, few_good}
use Rattle.sets.proofs.map.audit.Goals as goal
use Rattle.sets.proofs.map.audit.Goals.{else-pages-gt-MOST-via-then-pages-gt-MOST+then-crowded+else-not-few_each, else-pages-gt-MOST-via-then-pages-gt-MOST+else-crowded, else-pages-gt-MOST-via-else-pages-gt-MOST}

-- Of few pages 24 sets do not wrap.
no_wrap : (n k : ℕ) → n ≤ 24 → k ≡ 24 → k * 2 ^ n < 2 ^ 32
no_wrap n k h e = rw e (let m : 2 ^ n ≤ 2 ^ 24 = pow_mono h in omega (arith, m))

never : {P : Type 0} → Decides false P → P → ⊥
never d p = true≢false (sym (d.complete p))

-- The arguments are those of the function, what is known of them, and what it has before its tests.
module _ (ss : List ℕ) (n : ℕ) (sizes : (length ss ≡ 24) × (n ≤ 24)) (fit : (i : ℕ) → Fits w32 (slice_index ss i))
    (r : Rows) (sum : r.sum < 2 ^ 32) (j : Joins ss r.a r.b r.c r.d r.sum []) (owned : ℕ) (small : owned < 2 ^ 32) (is : owned ≡ join4 r.a r.b r.c r.d) where
  fits : (i : ℕ) → slice_index ss i < 2 ^ 32
  fits i = omega (arith, fit i)

  owned-is : owned ≡ joined ss
  owned-is = is ∙ join_all ss r.a r.b r.c r.d r.sum j (subst (λ (x : ℕ). x < 2 ^ 32) is small) fits

  sum-is : r.sum ≡ total ss % 2 ^ 32
  sum-is = sum_all ss r.a r.b r.c r.d r.sum j sum

  high : 2 ^ n ≤ owned → GoodPages n (map pages_of ss) → ⊥
  high h = never (joined_high n ss fits (subst (λ (x : ℕ). 2 ^ n ≤ x) owned-is h))

  differs : r.sum ≢ owned → GoodPages n (map pages_of ss) → ⊥
  differs f = never (sum_other n ss fits (omega (arith, sizes.1)) (λ e. f (sum-is ∙ e ∙ sym owned-is)))

  -- Where the sets are below 2 ^ n and their sum is what they own.
  module _ (low : owned < 2 ^ n) (same : r.sum ≡ owned) where
    good : {b : Bool} → Decides b (FewEach 8 ss) → Decides b (GoodPages n (map pages_of ss))
    good = few_good n ss fits (no_wrap n (length ss) sizes.1 sizes.0) (subst (λ (x : ℕ). x < 2 ^ n) owned-is low) (sym sum-is ∙ same ∙ owned-is)

    crowded : Decides false (FewEach 8 ss) → GoodPages n (map pages_of ss) → ⊥
    crowded d = never (good d)

    free : FewEach 8 ss → GoodPages n (map pages_of ss) × (n - count_ones owned ≡ length (free_below n (map pages_of ss)))
    free f =
        let e = free_rest owned (map pages_of ss) (λ p. ap (bit p) owned-is ∙ joined_owned ss fits p) n low in
        ((good (always f)).sound refl, omega (arith, e))

    few-owned : count_ones owned ≤ 8 → FewEach 8 ss
    few-owned h i = le_trans (ones_joined ss i) (subst (λ (x : ℕ). count_ones x ≤ 8) owned-is h)

pub returns-then-all_pages-owned : goal.returns-then-all_pages-owned
returns-then-all_pages-owned c =
    let r = c.joined-rows in
    let o = c.pages-owned in
    ⊎_elim
    (λ h. high c.args.sets.now c.args.count c.requires c.type_inv.sets r.result (omega arith) r.ensures o.result o.type_inv o.ensures (omega (arith, pow_pos c.args.count, h)))
    (λ h. differs c.args.sets.now c.args.count c.requires c.type_inv.sets r.result (omega arith) r.ensures o.result o.type_inv o.ensures (λ e. omega (arith, h.1, e)))
    c.then-all_pages-owned.either

pub returns-then-not-few_each : goal.returns-then-not-few_each
returns-then-not-few_each c =
    let r = c.joined-rows in
    let o = c.pages-owned in
    crowded c.args.sets.now c.args.count c.requires c.type_inv.sets r.result (omega arith) r.ensures o.result o.type_inv o.ensures
    (omega (arith, pow_pos c.args.count)) (omega arith) c.if-not-few_each.ensures

pub overflow_sub-result : goal.overflow_sub-result
overflow_sub-result c = ones-le c.args.count c.pages-owned.result (omega (arith, pow_pos c.args.count))

pub returns : goal.returns
returns c =
    let r = c.joined-rows in
    let o = c.pages-owned in
    let low : o.result < 2 ^ c.args.count = omega (arith, pow_pos c.args.count) in
    free c.args.sets.now c.args.count c.requires c.type_inv.sets r.result (omega arith) r.ensures o.result o.type_inv o.ensures low (omega arith)
    (elim c.else-pages-gt-MOST.branch [
      | else-pages-gt-MOST-via-then-pages-gt-MOST+then-crowded+else-not-few_each w ↦ w.few_each.ensures.sound w.if-not-few_each.false
      | else-pages-gt-MOST-via-then-pages-gt-MOST+else-crowded w ↦
          let h = w.if-crowded.ensures.sound refl in
          few_all c.args.sets.now r.result.a r.result.b r.result.c r.result.d r.result.sum r.ensures 8 h.0 h.1 h.2 h.3
      | else-pages-gt-MOST-via-else-pages-gt-MOST w ↦
          few-owned c.args.sets.now c.args.count c.requires c.type_inv.sets r.result (omega arith) r.ensures o.result o.type_inv o.ensures low
          (omega arith) (omega arith)
    ])
