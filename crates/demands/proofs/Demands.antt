-- The client's three demands, and what document 02's W3 promises of strips, W4 of the frame check sequence, W8 of the link, W9 of its two parts and W10 of private contents, a record for each, of the rules and of the code; each is proved by citing what leads to it.
-- n is how many packets a part has, and how many pages: "Demand 2 reads 18 for 24 on this part, and so does 01 wherever it counts packets or pages" (W9). All is proved once over n, and `Lan91c96` and `Lan91c94` cite it with 24 and 18.
-- Of the rules: `step_of n` and `run_of n` (rules/specs/Step) on any chip; `powered l n` is power-up, of document 01's chip where the layout l is `paged`. Of the code: `Serves l i b x`, what the public
-- entries `access`, `frame`, `send` and `link` promise of the input i on any board b (registers, page sets or counts and queues by value, and the memory lent), `chip`'s at `Paged` with l = `paged` and at `Strips` with l = `strips`;
-- `Runs l` of inputs one after another; `chip_of l b` is the chip that a board stands for, `part_in b` the n that it names, `reply_to x` document 01's number and value. `Good l b`: it is in order; `GoodOf n l b`: and names n.
use Rattle.std.specs.Prelude.{refl, ℕ, ◌≤◌}
use Rattle.std.proofs.Common.{arith}
use Rattle.rules.specs.Parts.{IsPart}
use Rattle.rules.specs.Chip.{paged}
use Rattle.wellformed.specs.Parts.{part_few}
use Rattle.wellformed.proofs.Parts.{step_of_part}
use Rattle.laws.specs.Sendable.{told_by_count, told_before}
use Rattle.laws.specs.Refusals.{sixteen_there}
use Rattle.laws.proofs.Refusals.{numbers_given, refusal_leaves, refusal_value, sixteen_where, never_seventeen}
use Rattle.laws.proofs.Fcs.{step_sends_good, one_byte_changed_is_found}
use Rattle.laws.specs.Layout.{size_stays}
use Rattle.laws.specs.LinkPlaces.{link_alone}
use Rattle.laws.proofs.LinkPlaces.{link_apart, link_and_frame, link_and_send, link_and_refused_send}
use Rattle.laws.proofs.Merge.{any_two_lem}
use Rattle.strip_laws.proofs.StripsAlike.{strips_beside}
use Rattle.blind_laws.proofs.Blindness.{blind}
use Rattle.blind_laws.proofs.PrivateKept.{open_alike}
use Rattle.laws.proofs.Theorems.{power_up_whole, step_whole, pages_accounted, since_power_up, since_reset}
use Rattle.demands.specs.Boards.{good_part, good_size, serves_right, serves_once}
use Rattle.demands.proofs.Boards.{serves_refused}
use Rattle.demands.proofs.OfCode.{good_whole, serves_numbers, serves_leaves, serves_values, serves_sixteen, serves_no17, serves_part, serves_earlier, serves_counts, serves_pages, starts_up, runs_balanced, runs_balanced_since, serves_good_crc, any_two_on}
use Rattle.demands.proofs.BesideCode.{runs_beside}
use Rattle.demands.specs.LinkOfCode.{serves_apart}
use Rattle.demands.proofs.LinkOfCode.{serves_alone, frame_places_lem, send_places_lem}
use Rattle.demands.proofs.BlindCode.{runs_blind}
use Rattle.demands.specs.Demands.{Demand1, Demand2, Demand3, BesidePages, FrameCheck, WhateverLink, TwoParts, PayloadBlind}

pub demand1 : {n : ℕ} → IsPart n → Demand1 n
demand1 {n} part = record {
  numbers = numbers_given n;
  leaves = refusal_leaves n;
  values = refusal_value n;
  sixteen = λ i c. (sixteen_where n i c, sixteen_there n i c);
  no17 = never_seventeen n;
  earlier = told_before n;
  counts = told_by_count n;
  code_numbers = serves_numbers;
  code_leaves = serves_leaves;
  code_values = serves_values;
  code_sixteen = serves_sixteen;
  code_no17 = serves_no17;
  code_earlier = serves_earlier;
  code_counts = serves_counts;
}

pub demand2 : {n : ℕ} → IsPart n → Demand2 n
demand2 {n} part =
    let small : n ≤ 128 = omega (arith, part_few part) in
    record {
      powers = power_up_whole n;
      keeps = step_whole n;
      pages = pages_accounted n;
      ledger = since_power_up n small;
      ledger_since = since_reset n small;
      code_powers = starts_up n;
      code_step = serves_right n;
      code_only = serves_once;
      code_line = λ l b up h. (λ r. h.up r b.memory, h.down);
      code_pages = serves_pages n paged refl;
      code_ledger = runs_balanced n;
      code_ledger_since = runs_balanced_since n;
    }

pub demand3 : {n : ℕ} → IsPart n → Demand3 n
demand3 {n} part = record { any_two = any_two_lem n; code_any_two = any_two_on }

pub beside_pages : {n : ℕ} → IsPart n → BesidePages n
beside_pages {n} part = record { beside = strips_beside n; code_beside = runs_beside n }

pub frame_check : {n : ℕ} → IsPart n → FrameCheck n
frame_check {n} part = record { sent_good = λ s out c. step_sends_good n s c out; changed_found = one_byte_changed_is_found; code_sent_good = serves_good_crc }

pub whatever_link : {n : ℕ} → IsPart n → WhateverLink n
whatever_link {n} part = record {
  alone = link_alone n;
  apart = link_apart n;
  frame_places = link_and_frame n;
  send_places = link_and_send n;
  refused_places = link_and_refused_send n;
  code_alone = serves_alone;
  code_apart = serves_apart;
  code_frame_places = frame_places_lem;
  code_send_places = send_places_lem;
}

pub payload_blind : {n : ℕ} → IsPart n → PayloadBlind n
payload_blind {n} part = record { blind = λ l is js. blind n l; known = λ l is js. open_alike n l; code_blind = λ l is js. runs_blind l n }

pub two_parts : TwoParts
two_parts = record {
  steps = λ i c part. step_of_part i c part refl;
  stays = size_stays;
  code_names = good_part;
  code_whole = good_whole;
  code_size = good_size;
  code_memory = λ l b g. g.full;
  code_neither = λ l i b x none. serves_refused l i b x (λ g. none (good_part l b g));
  code_stays = serves_part;
}
