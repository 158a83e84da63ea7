-- What a send promises: the rules' turn, of the answer and of the state, memory and output left behind.
use Rattle.std.specs.Prelude.{◌≡◌, Bool, not, List, ℕ, get_or, drop}
use Rattle.std.proofs.Common.{sym, ◌∙◌}
use Rattle.rules.specs.Lists.{some?}
use Rattle.rules.specs.Chip.{Layout, paged, Chip}
use Rattle.rules.specs.Fields.{set_tx, in_registers, in_pool}
use Rattle.rules.specs.Answers.{Turn}
use Rattle.rules.specs.Packet.{get_bytes}
use Rattle.rules.specs.Send.{Send, sent_registers, retire, status_word, status_written, if_sendable}
use Rattle.state.specs.Meaning.{Answer}
use Rattle.state.specs.Meaning.{reply_of}
use Rattle.state.specs.View.{view_of}
use Rattle.state.specs.Promise.{SoundOf}
use Rattle.state.specs.Only.{one_answer}
use Rattle.state.proofs.Only.{one_state}

-- the answer, with state, memory and output after it, is what the turn says
pub record SendsOf (l : Layout) (t : Turn) (a : Answer) (w s q mem out : List ℕ) : Type 0 where
  pub chip : view_of l w s q mem ≡ t.chip
  pub reply : reply_of a ≡ t.reply
  pub output : out ≡ t.output
  pub sound : SoundOf l w s q

abbrev pub Sends : Turn → Answer → List ℕ → List ℕ → List ℕ → List ℕ → List ℕ → Type 0
Sends = SendsOf paged

-- there is one
pub sends_once : {l : Layout} {t : Turn} {a a' : Answer} {w s q mem out w' s' q' mem' out' : List ℕ} → SendsOf l t a w s q mem out → SendsOf l t a' w' s' q' mem' out'
    → (a ≡ a') × (w ≡ w') × (s ≡ s') × (q ≡ q') × (mem ≡ mem') × (out ≡ out')
sends_once {a = a} {a' = a'} x y =
    let e = one_state x.sound y.sound (x.chip ∙ sym y.chip) in
    (one_answer a a' (x.reply ∙ sym y.reply), e.0, e.1, e.2, e.3, x.output ∙ sym y.output)

-- The chip after all that a send does to it: the head of TX has the pages.
abbrev pub completed : Bool → Bool → Send → List ℕ → Chip → Chip
completed released is_good s pages c =
    let rest = drop 1 c.pool.tx in
    let address = get_bytes 6 4 pages c.memory in
    retire released (get_or c.pool.tx 0 0)
    (status_written pages (status_word is_good s address c.regs)
    (in_pool (set_tx rest) (in_registers (sent_registers is_good s address (not (some? rest))) c)))

-- this chip is left in state and memory
pub record CompletesOf (l : Layout) (released is_good : Bool) (s : Send) (pages : List ℕ) (c : Chip) (w' s' q' mem' : List ℕ) : Type 0 where
  pub chip : view_of l w' s' q' mem' ≡ completed released is_good s pages c
  pub sound : SoundOf l w' s' q'

abbrev pub Completes : Bool → Bool → Send → List ℕ → Chip → List ℕ → List ℕ → List ℕ → List ℕ → Type 0
Completes = CompletesOf paged

-- the head of TX, where it has one, is sent
abbrev pub head_sent : Send → Chip → List ℕ → Turn
head_sent s c out = if_sendable s (get_or c.pool.tx 0 0) (drop 1 c.pool.tx) c out
