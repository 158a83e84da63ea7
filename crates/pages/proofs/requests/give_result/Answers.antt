-- The low byte stays, and the result stands above it; then what is waited for is stored.
use Rattle.std.proofs.Common.{ℕ, ◌+◌, ◌*◌, ap, ◌∙◌}
use Rattle.rules.specs.Bits.{low_byte, word_of}
use Rattle.state.specs.Promise.{sets_both}
use Rattle.state.specs.Stores.{store_result, store_waiting}
use Rattle.pages.proofs.requests.give_result.Goals as goal

pub returns : goal.returns
unfolding low_byte word_of
returns c =
    let k = c.args.res in
    let first = store_result k _ c.args.words.now c.requires (c.word.ensures ∙ ap (λ (x : ℕ). x + k * 256) c.low_byte.ensures) in
    sets_both first (store_waiting c.args.waiting _ first.kept)
