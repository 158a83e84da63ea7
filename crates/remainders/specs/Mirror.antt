-- The n lowest bits of a number in the other order.
use Rattle.std.specs.Prelude.{◌≡◌, refl, ℕ, zero, suc, ◌+◌, ◌-◌, ◌*◌, ◌/◌, ◌%◌, ◌^◌, ◌<◌}
use Rattle.std.proofs.Common.{ap, ap₂, sym, ◌∙◌, pow-suc, add-mul, mul_assoc, div-add-mod', mod-lt, arith, pow_pos, pow-add}
use Rattle.std.specs.Int.Bits.{bit_xor, block_half, block_odd}
use Rattle.std.proofs.lemmas.Nat.{xor_shr, xor_mod, xor_block}
use Rattle.rules.specs.Crc.{mirror}
use Rattle.remainders.specs.Xor.{digit}

pub mirror_lt : (n x : ℕ) → mirror n x < 2 ^ n
unfolding mirror
mirror_lt zero x = omega arith
mirror_lt (suc n) x =
    digit (λ (d : ℕ). d * 2 ^ n + mirror n (x / 2) < 2 ^ suc n) (omega (arith, mirror_lt n (x / 2), pow-suc 2 n)) (omega (arith, mirror_lt n (x / 2), pow-suc 2 n)) (x % 2) (omega arith)

-- the highest bit becomes the lowest
Above : ℕ → ℕ → ℕ → Type 0
Above n m b = mirror (suc n) (b * 2 ^ n + m) ≡ b + 2 * mirror n m

half : (n m b : ℕ) → b < 2 → (b * 2 ^ suc n + m) / 2 ≡ b * 2 ^ n + m / 2
half n m = digit (λ (b : ℕ). (b * 2 ^ suc n + m) / 2 ≡ b * 2 ^ n + m / 2) (omega arith) (omega (arith, pow-suc 2 n))

rest : (n m b : ℕ) → b < 2 → (b * 2 ^ suc n + m) % 2 ≡ m % 2
rest n m = digit (λ (b : ℕ). (b * 2 ^ suc n + m) % 2 ≡ m % 2) (omega arith) (omega (arith, pow-suc 2 n))

twice : (n d : ℕ) → d * 2 ^ suc n ≡ 2 * (d * 2 ^ n)
twice n d = omega (arith, ap (λ (p : ℕ). d * p) (pow-suc 2 n))

above : (n m b : ℕ) → b < 2 → m < 2 ^ n → Above n m b
unfolding mirror Above
above zero m b hb hm = omega arith
above (suc n) m b hb hm =
    let less : m / 2 < 2 ^ n = omega (arith, pow-suc 2 n) in
    ap₂ (λ (d y : ℕ). d * 2 ^ suc n + mirror (suc n) y) (rest n m b hb) (half n m b hb)
    ∙ omega (arith, above n (m / 2) b hb less, twice n (m % 2))

-- turned round twice, a number is what it was
pub mirror_back : (n x : ℕ) → x < 2 ^ n → mirror n (mirror n x) ≡ x
unfolding mirror Above
mirror_back zero x h = omega arith
mirror_back (suc n) x h =
    let less : x / 2 < 2 ^ n = omega (arith, pow-suc 2 n) in
    above n (mirror n (x / 2)) (x % 2) (omega arith) (mirror_lt n (x / 2)) ∙ omega (arith, mirror_back n (x / 2) less)

-- two numbers of which each has the bits that the other lacks are such turned round, too
both : (n x y : ℕ) → x + y + 1 ≡ 2 ^ n → mirror n x + mirror n y + 1 ≡ 2 ^ n
unfolding mirror
both zero x y h = refl
both (suc n) x y h =
    let upper : x / 2 + y / 2 + 1 ≡ 2 ^ n = omega (arith, pow-suc 2 n) in
    let lower : x % 2 + y % 2 ≡ 1 = omega (arith, pow-suc 2 n) in
    let p = mirror n (x / 2) in
    let q = mirror n (y / 2) in
    digit (λ (d : ℕ). d + y % 2 ≡ 1 → d * 2 ^ n + p + (y % 2 * 2 ^ n + q) + 1 ≡ 2 ^ suc n)
    (λ e. let one : y % 2 ≡ 1 = omega arith in rw one (omega (arith, both n (x / 2) (y / 2) upper, pow-suc 2 n)))
    (λ e. let none : y % 2 ≡ 0 = omega arith in rw none (omega (arith, both n (x / 2) (y / 2) upper, pow-suc 2 n)))
    (x % 2) (omega arith) lower

-- so the complement turned round is the complement of what is turned round
pub mirror_complement : (x : ℕ) → x < 2 ^ 32 → mirror 32 (0xffffffff - x) ≡ 0xffffffff - mirror 32 x
mirror_complement x h = omega (arith, both 32 x (0xffffffff - x) (omega arith))

-- the six highest of 32 bits are the six lowest, turned round
one : (n x : ℕ) → mirror (suc n) x ≡ x % 2 * 2 ^ n + mirror n (x / 2)
unfolding mirror
one n x = refl

pub top_six : (x : ℕ) → mirror 32 x / 2 ^ 26 ≡ x % 2 * 32 + x / 2 % 2 * 16 + x / 4 % 2 * 8 + x / 8 % 2 * 4 + x / 16 % 2 * 2 + x / 32 % 2
top_six x =
    let two : x / 2 / 2 ≡ x / 4 = omega arith in
    let three : x / 4 / 2 ≡ x / 8 = omega arith in
    let four : x / 8 / 2 ≡ x / 16 = omega arith in
    let five : x / 16 / 2 ≡ x / 32 = omega arith in
    omega (
      arith,
      one 31 x,
      one 30 (x / 2) ∙ ap (λ (y : ℕ). x / 2 % 2 * 2 ^ 30 + mirror 30 y) two,
      one 29 (x / 4) ∙ ap (λ (y : ℕ). x / 4 % 2 * 2 ^ 29 + mirror 29 y) three,
      one 28 (x / 8) ∙ ap (λ (y : ℕ). x / 8 % 2 * 2 ^ 28 + mirror 28 y) four,
      one 27 (x / 16) ∙ ap (λ (y : ℕ). x / 16 % 2 * 2 ^ 27 + mirror 27 y) five,
      one 26 (x / 32),
      mirror_lt 26 (x / 32 / 2),
    )

-- turned round, two numbers added bit by bit are the two added
pub mirror_xor : (n a b : ℕ) → mirror n (bit_xor a b) ≡ bit_xor (mirror n a) (mirror n b)
unfolding mirror
mirror_xor zero a b = refl
mirror_xor (suc n) a b =
    ap₂ (λ (x y : ℕ). x * 2 ^ n + y) (xor_mod a b 1) (ap (mirror n) (xor_shr a b 1) ∙ mirror_xor n (a / 2) (b / 2))
    ∙ sym (xor_block n (a % 2) (b % 2) (mirror n (a / 2)) (mirror n (b / 2)) (mirror_lt n (a / 2)) (mirror_lt n (b / 2)))

-- the k lowest bits come to stand above the n others
pub mirror_join : (k n q a : ℕ) → a < 2 ^ k → mirror (k + n) (q * 2 ^ k + a) ≡ mirror k a * 2 ^ n + mirror n q
unfolding mirror
mirror_join zero n q a h =
    let all : 0 + n ≡ n = omega arith in
    let only : q * 1 + a ≡ q = omega arith in
    ap₂ mirror all only ∙ omega arith
mirror_join (suc k) n q a h =
    let more : suc k + n ≡ suc (k + n) = omega arith in
    ap (λ (m : ℕ). mirror m (q * 2 ^ suc k + a)) more
    ∙ ap₂ (λ (d y : ℕ). d * 2 ^ (k + n) + mirror (k + n) y) (block_odd q k a) (block_half q k a)
    ∙ ap (λ (y : ℕ). a % 2 * 2 ^ (k + n) + y) (mirror_join k n q (a / 2) (omega (arith, pow-suc 2 k)))
    ∙ omega (arith, ap (λ (p : ℕ). a % 2 * p) (pow-add 2 k n), mul_assoc (a % 2) (2 ^ k) (2 ^ n), add-mul (a % 2 * 2 ^ k) (mirror k (a / 2)) (2 ^ n))

pub mirror_parts : (k n x : ℕ) → mirror (k + n) x ≡ mirror k (x % 2 ^ k) * 2 ^ n + mirror n (x / 2 ^ k)
mirror_parts k n x = ap (mirror (k + n)) (sym (div-add-mod' x (2 ^ k))) ∙ mirror_join k n (x / 2 ^ k) (x % 2 ^ k) (mod-lt x (pow_pos k))

nothing : (n : ℕ) → mirror n 0 ≡ 0
unfolding mirror
nothing zero = refl
nothing (suc n) = omega (arith, nothing n)

-- bits that are not there are zeros at the end
pub mirror_wider : (k n x : ℕ) → x < 2 ^ k → mirror (k + n) x ≡ mirror k x * 2 ^ n
mirror_wider k n x h =
    let all : x ≡ 0 * 2 ^ k + x = omega arith in
    ap (mirror (k + n)) all ∙ mirror_join k n 0 x h ∙ omega (arith, nothing n)
