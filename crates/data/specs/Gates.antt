-- How a gate stands for the tests of the rules: refusals 7 or 5, 8, 9 and 10 in this order; and that an access goes by the pages of the packet that is meant.
use Rattle.std.specs.Prelude.{◌≡◌, Bool, not, ◌||◌, ℕ, zero, suc, ◌+◌, ◌*◌, ◌/◌, ◌≤◌, ◌<◌, drop, Ok, Err}
use Rattle.std.proofs.Math.Path.{refl, ap}
use Rattle.std.proofs.Common.{sym, subst, ◌∙◌, true≢false, arith}
use Rattle.std.proofs.Math.Bool.{true, false, cond}
use mathlib.Core.List.{List, [], ◌∷◌}
use borrow.Author.Tests.{lt-ltb}
use Rattle.std.proofs.Math.ListN.{length, get_or-eq_default}
use Rattle.rules.specs.Lists.{member, some?}
use Rattle.rules.specs.Chip.{Layout, Chip, pages_at}
use Rattle.rules.specs.Answers.{Reply, Effect, refuse}
use Rattle.rules.specs.Answers as rules
use Rattle.rules.specs.WellFormed.{FormedAt}
use Rattle.rules.specs.Mmu.{if_head}
use Rattle.rules.specs.Data.{rcv, against, odd_fixed, past, address, if_packet, if_open}
use Rattle.lists.specs.Facts.{or_left, or_right, member_first, member_later}
use Rattle.lists.specs.Bytes.{Below, place_room}
use Rattle.wellformed.specs.Parts.{part_few}
use Rattle.state.specs.Meaning.{Answer}
use Rattle.state.specs.Meaning.{reply_of}
use Rattle.state.specs.View.{word, view_of}
use Rattle.state.specs.Promise.{ReadyOf, Ready, MakesOf}
use Rattle.state.specs.declared.Refusal.{Refusal}
use Rattle.data.specs.declared.Spot.{Spot}
use Rattle.data.specs.Access.{head_or24, meant_by, pages_meant_of, pages_meant, refusal_if, refusal_of, if_any, unless_past, Stands, Guards, Room}

-- The tests in their order, where the last holds if no other does.
pub in_order : (n a o q : Bool) (k : ℕ) (c : Chip) (s : Effect) → (a || o ≡ false → q ≡ true)
    → cond (not n) (refuse k c) (cond a (refuse 8 c) (cond o (refuse 9 c) (cond q (refuse 10 c) s))) ≡ refuse (cond (not n) k (cond a 8 (cond o 9 10))) c
in_order false a o q k c s h = refl
in_order true true o q k c s h = refl
in_order true false true q k c s h = refl
in_order true false false q k c s h = ap (λ (b : Bool). cond b (refuse 10 c) s) (h refl)

module _ (isRead : Bool) (p : ℕ) (pages : List ℕ) (none : Bool) where
  -- A gate that refuses: there is no such page, or refusal 8 or 9 stands before.
  pub refuses : (a : Refusal) → reply_of (Err a) ≡ rules.refusal (refusal_of isRead p pages) → none || (against isRead p || odd_fixed p) ≡ true
      → (none ≡ true → length pages ≤ address p / 256) → Guards isRead p pages (Err a)
  unfolding if_any refusal_if past
  refuses a e t h width c s some =
      in_order (some? pages) (against isRead p) (odd_fixed p) _ (cond (rcv p) 7 5) c s (λ f. lt-ltb (256 * length pages) (address p + width) (omega (arith, h (left none f t))))
      ∙ ap (λ (r : Reply). record { reply = r; chip = c }) (sym e)
    where
      left : (b : Bool) → against isRead p || odd_fixed p ≡ false → b || (against isRead p || odd_fixed p) ≡ true → b ≡ true
      left true f g = refl
      left false f g = absurd (true≢false (sym g ∙ f))

  -- A gate that is open: the tests before 10 do not hold.
  pub opens : (at rest : ℕ) → none || (against isRead p || odd_fixed p) ≡ false → Stands pages p at rest → Guards isRead p pages (Ok (record { at = at; rest = rest }))
  unfolding if_any unless_past some?
  opens at rest f h =
      let g = or_right none (against isRead p || odd_fixed p) f in
      (h, λ width c s. rw (has pages h.reaches, or_left (against isRead p) (odd_fixed p) g, or_right (against isRead p) (odd_fixed p) g))
    where
      has : (l : List ℕ) → address p < 256 * length l → some? l ≡ true
      has [] r = absurd (omega arith)
      has (x ∷ xs) r = refl

-- An access goes by the pages of the packet that is meant.
module _ {n : ℕ} (few : n ≤ 24) (c : Chip) (w : FormedAt n c) (access : List ℕ → Effect) where
  abbrev by : ℕ → Bool → Effect
  by k b = cond (not (some? (pages_at c k))) (refuse (cond b 7 5) c) (access (pages_at c k))

  by_head : (rx : List ℕ) → c.pool.rx ≡ rx → if_head c rx (λ k ks. access (pages_at c k)) ≡ by (head_or24 rx) true
  unfolding some?
  by_head [] e = rw (get_or-eq_default c.pool.pages [] {n = 24} (omega (arith, few, w.count)))
  by_head (k ∷ ks) e = rw (w.queues.rx_allocated k (rw e (member_first k ks)))

  by_meant : if_packet c access ≡ by (meant_by c.regs.pointer c.regs.numbers.packet c.pool.rx) (rcv c.regs.pointer)
  unfolding if_packet meant_by
  by_meant = go (rcv c.regs.pointer)
    where
      go : (b : Bool) → cond b (if_head c c.pool.rx (λ k ks. access (pages_at c k))) (by c.regs.numbers.packet false) ≡ by (cond b (head_or24 c.pool.rx) c.regs.numbers.packet) b
      go false = refl
      go true = by_head c.pool.rx refl

module _ {l : Layout} {w s q : List ℕ} (k : ReadyOf l w s q) (mem : List ℕ) where
  pub enters : (isRead : Bool) (width : ℕ) (f : List ℕ → Effect)
      → if_packet (view_of l w s q mem) (λ pages. if_open isRead width pages (view_of l w s q mem) (f pages))
      ≡ if_any isRead width (word w 19) (pages_meant_of l w s q) (view_of l w s q mem) (f (pages_meant_of l w s q))
  unfolding if_any if_open
  enters isRead width f = by_meant (part_few k.sound.sets.part) (view_of l w s q mem) k.well (λ pages. if_open isRead width pages (view_of l w s q mem) (f pages))

  -- So it is what the gate says.
  pub stopped : (isRead : Bool) (width : ℕ) (f : List ℕ → Effect) (a : Refusal) → Guards isRead (word w 19) (pages_meant_of l w s q) (Err a) → 0 < width
      → MakesOf l (if_packet (view_of l w s q mem) (λ pages. if_open isRead width pages (view_of l w s q mem) (f pages))) (Err a) w s q mem
  stopped isRead width f a g some = rw (enters isRead width f ∙ g width _ _ some) (record { chip = refl; reply = refl; sound = k.sound })

  pub passed : (isRead : Bool) (width : ℕ) (f : List ℕ → Effect) {x : Spot} {a : Answer} {w' mem' : List ℕ} → Guards isRead (word w 19) (pages_meant_of l w s q) (Ok x)
      → MakesOf l (unless_past width (word w 19) (pages_meant_of l w s q) (view_of l w s q mem) (f (pages_meant_of l w s q))) a w' s q mem'
      → MakesOf l (if_packet (view_of l w s q mem) (λ pages. if_open isRead width pages (view_of l w s q mem) (f pages))) a w' s q mem'
  passed isRead width f g m = rw (enters isRead width f ∙ g.1 width _ _) m

-- The bytes of an access that may go on lie in the memory: with page sets.
module _ {w s q : List ℕ} (k : Ready w s q) (mem : List ℕ) where
  pub room : {at rest : ℕ} → length mem ≡ 256 * length s → Stands (pages_meant w s q) (word w 19) at rest → Room w mem at rest
  room {at} {rest} full h =
      let n = length s in
      let pages : length mem / 256 ≡ n = omega (arith, full) in
      let below : Below n (pages_meant w s q) = k.well.pages.within _ in
      record {
        kept = k.sound.kept;
        full = omega (arith, full);
        inside = omega (arith, full, h.lies, place_room n (pages_meant w s q) (address (word w 19)) below h.reaches);
        below = rw pages (subst (Below n) (sym h.left) (λ p m. below p (member_drop (address (word w 19) / 256) (pages_meant w s q) p m)));
      }
    where
      member_drop : (n : ℕ) (l : List ℕ) (p : ℕ) → member p (drop n l) ≡ true → member p l ≡ true
      member_drop zero l p m = m
      member_drop (suc n) [] p m = m
      member_drop (suc n) (x ∷ xs) p m = member_later p x xs (member_drop n xs p m)
