-- The test that refusal 16 makes is true exactly when the memory has its length and the chip is well formed: clause by clause.
use Rattle.std.specs.Prelude.{◌≡◌, refl, true, false, ◌&&◌, List, [], ◌∷◌, ℕ, zero, suc, ◌+◌, ◌*◌, ◌≤◌, ◌<◌, leb, length, get_or, drop}
use Rattle.std.proofs.Common.{ap, ap₂, sym, ◌∙◌, true≢false, arith}
use Rattle.rules.specs.Lists.{member, some?, owned, total, up_from}
use Rattle.rules.specs.Chip.{Numbers, Layout, paged, strips, Pool, Chip, page_numbers, free_for}
use Rattle.rules.specs.Answers.{refused}
use Rattle.rules.specs.Step.{Input, lent, serve, step_of}
use Rattle.rules.specs.WellFormed.{Above, Ascending, Distinct, GoodPages, Laid, GoodQueues, GoodNumbers, GoodRequest, FormedAt}
use Rattle.rules.specs.Tests.{above, ascends, all_below, apart, none_owned, pages_good, goes_up, own_good, laid_good, queue_good, queues_good, numbers_good, request_good, formed, fit}
use Rattle.lists.specs.Facts.{if_not, Decides, agrees, always, is_true, is_false, ◌and◌, ◌or◌, lt_decides, le_decides, eq_decides, nobody}
use Rattle.lists.specs.Each.{Each, each_member, member_each, members}
use Rattle.lists.specs.Owned.{owned_none, owned_in}
use Rattle.wellformed.specs.Count.{good_rest}
use Rattle.wellformed.specs.Fit.{formed_decides, Fits}

pub fit_decides : (n : ℕ) (c : Chip) → Decides (fit n c) (Fits n c)
unfolding fit
fit_decides n c = agrees (eq_decides (length c.memory) (256 * page_numbers c.pool.layout n) and formed_decides n c) (λ w. (w.1, w.0)) (λ w. (w.1, w.0))

-- So a step on such a chip goes by its input, and on any other is refusal 16.
module _ (n : ℕ) (i : Input) (c : Chip) where
  pub step_fit : Fits n c → step_of n i c ≡ serve i c
  unfolding step_of
  step_fit w = rw ((fit_decides n c).complete w)

  pub step_unfit : (Fits n c → ⊥) → step_of n i c ≡ refused 16 c (lent i)
  unfolding step_of
  step_unfit h = rw (if_not (fit n c) (λ t. h ((fit_decides n c).sound t)))
