-- What an order is in the rules, and what performing a command means.
use Rattle.std.specs.Prelude.{◌≡◌, refl, List, ℕ}
use Rattle.std.proofs.Common.{ap, sym, ◌∙◌}
use Rattle.rules.specs.Chip.{Layout, paged}
use Rattle.rules.specs.Mmu.{Command, nothing, allocate, reset, remove_rx, remove_and_release, release, enqueue, reset_tx, unknown, perform}
use Rattle.state.specs.Meaning.{Answer}
use Rattle.state.specs.View.{view_of}
use Rattle.state.specs.Promise.{MakesOf}
use Rattle.commands.specs.declared.Order.{Order}
use Rattle.commands.specs.declared.Order.TheVariants as order

-- the command of document 01 that an order is
abbrev pub command_of : Order → Command
command_of order.Nothing = nothing
command_of (order.Allocate n) = allocate n
command_of order.Reset = reset
command_of order.RemoveRx = remove_rx
command_of order.RemoveAndRelease = remove_and_release
command_of order.Release = release
command_of order.Enqueue = enqueue
command_of order.ResetTx = reset_tx
command_of order.Unknown = unknown

-- so an order is known from its command
order_of : Command → Order
order_of nothing = order.Nothing
order_of (allocate n) = order.Allocate n
order_of reset = order.Reset
order_of remove_rx = order.RemoveRx
order_of remove_and_release = order.RemoveAndRelease
order_of release = order.Release
order_of enqueue = order.Enqueue
order_of reset_tx = order.ResetTx
order_of unknown = order.Unknown

order_back : (o : Order) → order_of (command_of o) ≡ o
unfolding order_of
order_back order.Nothing = refl
order_back (order.Allocate n) = refl
order_back order.Reset = refl
order_back order.RemoveRx = refl
order_back order.RemoveAndRelease = refl
order_back order.Release = refl
order_back order.Enqueue = refl
order_back order.ResetTx = refl
order_back order.Unknown = refl

pub order_once : (a b : Order) → command_of a ≡ command_of b → a ≡ b
order_once a b e = sym (order_back a) ∙ ap order_of e ∙ order_back b

-- answer and state after are what document 01 says of the command, whatever the memory, which no command touches
abbrev pub PerformsOf : Layout → Command → List ℕ → List ℕ → List ℕ → Answer → List ℕ → List ℕ → List ℕ → Type 0
PerformsOf l k w s q a w' s' q' = (mem : List ℕ) → MakesOf l (perform k (view_of l w s q mem)) a w' s' q' mem

abbrev pub Performs : Command → List ℕ → List ℕ → List ℕ → Answer → List ℕ → List ℕ → List ℕ → Type 0
Performs = PerformsOf paged
