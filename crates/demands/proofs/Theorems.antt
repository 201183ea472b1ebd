-- The demands over words, streams and captures, and those for a host in C, all of them proved.
-- Assumes nothing.
use Rattle.demands.specs.statements.Demands.{Demands}
use Rattle.demands.specs.statements.Calls.{Calls}
use Rattle.decoder.proofs.Theorems.{mends_two, flagged_exactly, smallest_distance}
use Rattle.account.proofs.Kept.{kept_from_order, adds_due}
use Rattle.account.proofs.Fill.{due_by_number, brings, fewer_than_two}
use Rattle.traffic.proofs.Signal.{prbs31, direct_state}
use Rattle.traffic.proofs.Frames.{frame_from, one_after_the_other, one_sequence, traffic_exists, top_bit}
use Rattle.traffic.proofs.Counts.{what_is_compared, counts_exactly, checks_exist}
use Rattle.traffic.proofs.Refusals.{frame_refusals, next_refusals, check_refusals}
use Rattle.traffic.proofs.Figures.{traffic_figures}
use Rattle.hunt.proofs.Exactly.{found_exactly, none_exactly, short_exactly, no_other, answer_exactly}
use Rattle.hunt.proofs.Runs.{found_by_then, however_cut, all_fed, can_be_fed, all_taken, frame_kept}
use Rattle.hunt.proofs.Refusals.{feed_refusals}
use Rattle.framing.proofs.Places.{base_places}
use Rattle.framing.proofs.Stream.{block_rule}
use Rattle.framing.proofs.Figures.{bench_figures}
use Rattle.demands.proofs.Refusals.{refusals}
use Rattle.demands.proofs.Symbols.{symbol_rule}
use Rattle.demands.proofs.Return.{return, one_frame}
use Rattle.demands.proofs.Stores.{stores_hold, last_kept}
use Rattle.demands.proofs.Flags.{flags_exactly}
use Rattle.demands.proofs.Trial.{refused_exactly, flips_counted, trials_exist, undamaged_exist}
use Rattle.demands.proofs.OneForAll.{one_for_all, two_flips}
use Rattle.demands.proofs.Tallies.{tallies_alike}
use Rattle.demands.proofs.Entered.{reported_is_entered}
use Rattle.demands.proofs.Numbers.{step_numbers}
use Rattle.demands.proofs.Verdict.{pass_exactly, fail_exactly, not_measured_exactly, program_says, measured_once, examinations_exist, arrived_always}
use Rattle.demands.proofs.Verdict.{never_pass, one_not_measured, all_counted, always_counted}
use Rattle.demands.proofs.Reports.{reports_alike}
use Rattle.demands.proofs.Host.{examined_verdict, examined_report, hosted_run, hosted_verdict, hosted_report, hosted_exists, nothing_dropped}
use Rattle.demands.proofs.Host.{stopped_verdict}
use Rattle.demands.proofs.OwnAccount.{own_verdict, told_stopped}
use Rattle.demands.proofs.Labels.{spans_label}
use Rattle.demands.proofs.ReedSolomon.{carries_exactly, reed_solomon_bound, four_pairs}
use Rattle.demands.proofs.Exceeded.{spans_exist, other_places, other_pairs}
use Rattle.demands.proofs.Traffic.{traffic_returns, traffic_hit, wrong_test, traffic_speaks}
use Rattle.demands.proofs.Fill.{fill_bits_lem, fill_words, tallied_exactly}
use Rattle.demands.proofs.Hunt.{sent_found, hit_found, accepted_found, found_accepted, hunted_alike}

pub demands : Demands
demands =
    record {
      refusals = refusals;
      step_numbers = step_numbers;
      symbols = symbol_rule;
      places = base_places;
      blocks = block_rule;
      figures = bench_figures;
      returns = return;
      one_frame = one_frame;
      undamaged = undamaged_exist;
      stores = stores_hold;
      last_kept = last_kept;
      mends_two = mends_two;
      two_flips = two_flips;
      distance = smallest_distance;
      flagged = flagged_exactly;
      flag_bytes = flags_exactly;
      pass = pass_exactly;
      fail = fail_exactly;
      not_measured = not_measured_exactly;
      program = program_says;
      one_meaning = measured_once;
      examinations = examinations_exist;
      never_pass = never_pass;
      arrived = arrived_always;
      all_counted = all_counted;
      always_counted = always_counted;
      kept = kept_from_order;
      one_for_all = one_for_all;
      tallies = tallies_alike;
      reported = reported_is_entered;
      reports = reports_alike;
      trials = trials_exist;
      refused = refused_exactly;
      flips = flips_counted;
      bound = reed_solomon_bound;
      labels = spans_label;
      spans = spans_exist;
      carried = carries_exactly;
      pairs = four_pairs;
      elsewhere = other_places;
      other_pairs = other_pairs;
      prbs31 = prbs31;
      direct_state = direct_state;
      traffic_figures = traffic_figures;
      frame_from = frame_from;
      one_after_the_other = one_after_the_other;
      one_sequence = one_sequence;
      traffic_exists = traffic_exists;
      top_bit = top_bit;
      compared = what_is_compared;
      counts_exactly = counts_exactly;
      checks_exist = checks_exist;
      traffic_returns = traffic_returns;
      traffic_hit = traffic_hit;
      wrong_test = wrong_test;
      traffic_speaks = traffic_speaks;
      frame_refusals = frame_refusals;
      next_refusals = next_refusals;
      check_refusals = check_refusals;
      fill_bits = fill_bits_lem;
      fill_words = fill_words;
      tallied_exactly = tallied_exactly;
      due_by_number = due_by_number;
      brings = brings;
      adds_due = adds_due;
      fewer_than_two = fewer_than_two;
      one_not_measured = one_not_measured;
      found_exactly = found_exactly;
      none_exactly = none_exactly;
      short_exactly = short_exactly;
      no_other = no_other;
      found_by_then = found_by_then;
      sent_found = sent_found;
      hit_found = hit_found;
      accepted_found = accepted_found;
      found_accepted = found_accepted;
      however_cut = however_cut;
      all_fed = all_fed;
      can_be_fed = can_be_fed;
      all_taken = all_taken;
      frame_kept = frame_kept;
      feed_refusals = feed_refusals;
      answer_exactly = answer_exactly;
    }

pub calls : Calls
calls =
    record {
      examined_verdict = examined_verdict;
      examined_report = examined_report;
      hosted_run = hosted_run;
      hosted_verdict = hosted_verdict;
      hosted_report = hosted_report;
      hosted = hosted_exists;
      nothing_dropped = nothing_dropped;
      stopped = stopped_verdict;
      own_verdict = own_verdict;
      told_stopped = told_stopped;
      hunted_alike = hunted_alike;
    }
