use Rattle.std.proofs.Common.{arith, codes, map, refl}
use Rattle.cc_replay.proofs.GivenWords.{bytes_number, check_bytes_number, check_natives_number, check_script_number, check_scripts_number, count_number, is_for, natives_number, number_given, number_there, number_within, one_request, scripts_number, seed_number}
use Rattle.cc_replay.proofs.words.request_of.Goals as goal

pub wide_number_of-seed-requires : goal.wide_number_of-seed-requires
wide_number_of-seed-requires c = record {
  given = number_there (map (λ w. w.now) c.args.words.now) _ c.in_ok-matches.ensures.named c.subcommand_matches.ensures.found c.subcommand_matches.ensures.rows c.in-Some.is
      (codes "seed") 18446744073709551615 _ (omega arith) seed_number c.in_ok-matches.ensures.taken;
}

pub number_of-count-requires : goal.number_of-count-requires
number_of-count-requires c = record {
  given = number_there (map (λ w. w.now) c.args.words.now) _ c.in_ok-matches.ensures.named c.subcommand_matches.ensures.found c.subcommand_matches.ensures.rows c.in-Some.is
      (codes "count") 1000000 _ (omega arith) count_number c.in_ok-matches.ensures.taken;
}

pub returns-in-Some-clause-request : goal.returns-in-Some-clause-request
returns-in-Some-clause-request c =
    let words = map (λ w. w.now) c.args.words.now in
    let rows = c.in_ok-matches.ensures.named in
    let met = c.subcommand_matches.ensures.found in
    let found = c.subcommand_matches.ensures.rows in
    record {
      subcommand = is_for words _ rows met found c.in-Some.is;
      seed_is = number_given words _ rows met found c.in-Some.is (codes "seed") refl c.wide_number_of-seed.ensures;
      count_is = number_given words _ rows met found c.in-Some.is (codes "count") refl c.number_of-count.ensures;
      within = number_within words _ rows met found c.in-Some.is (codes "count") 1000000 count_number c.in_ok-matches.ensures.taken c.number_of-count.ensures;
    }

pub returns-in-Some-clause-only : goal.returns-in-Some-clause-only
returns-in-Some-clause-only c other given = one_request (map (λ w. w.now) c.args.words.now) other _ given (returns-in-Some-clause-request c)

pub number_of-script-requires : goal.number_of-script-requires
number_of-script-requires c = record {
  given = number_there (map (λ w. w.now) c.args.words.now) _ c.in_ok-matches.ensures.named c.subcommand_matches-2.ensures.found c.subcommand_matches-2.ensures.rows c.in-Some-subcommand_matches.is
      (codes "script") 4294967295 _ (omega arith) check_script_number c.in_ok-matches.ensures.taken;
}

pub limits_of-limits-requires : goal.limits_of-limits-requires
limits_of-limits-requires c =
    let words = map (λ w. w.now) c.args.words.now in
    let rows = c.in_ok-matches.ensures.named in
    let met = c.subcommand_matches-2.ensures.found in
    let found = c.subcommand_matches-2.ensures.rows in
    record {
      natives = number_there words _ rows met found c.in-Some-subcommand_matches.is (codes "natives") 1000000 _ (omega arith) check_natives_number c.in_ok-matches.ensures.taken;
      scripts = number_there words _ rows met found c.in-Some-subcommand_matches.is (codes "scripts") 1000000 _ (omega arith) check_scripts_number c.in_ok-matches.ensures.taken;
      bytes = number_there words _ rows met found c.in-Some-subcommand_matches.is (codes "bytes") 4294967295 _ (omega arith) check_bytes_number c.in_ok-matches.ensures.taken;
    }

pub returns-in-Some-subcommand_matches-clause-request : goal.returns-in-Some-subcommand_matches-clause-request
returns-in-Some-subcommand_matches-clause-request c =
    let words = map (λ w. w.now) c.args.words.now in
    let rows = c.in_ok-matches.ensures.named in
    let met = c.subcommand_matches-2.ensures.found in
    let found = c.subcommand_matches-2.ensures.rows in
    record {
      subcommand = is_for words _ rows met found c.in-Some-subcommand_matches.is;
      script_is = number_given words _ rows met found c.in-Some-subcommand_matches.is (codes "script") refl c.number_of-script.ensures;
      natives = number_given words _ rows met found c.in-Some-subcommand_matches.is (codes "natives") refl c.limits_of-limits.ensures.natives;
      scripts = number_given words _ rows met found c.in-Some-subcommand_matches.is (codes "scripts") refl c.limits_of-limits.ensures.scripts;
      bytes = number_given words _ rows met found c.in-Some-subcommand_matches.is (codes "bytes") refl c.limits_of-limits.ensures.bytes;
    }

pub returns-in-Some-subcommand_matches-clause-only : goal.returns-in-Some-subcommand_matches-clause-only
returns-in-Some-subcommand_matches-clause-only c other given = one_request (map (λ w. w.now) c.args.words.now) other _ given (returns-in-Some-subcommand_matches-clause-request c)

pub limits_of-requires : goal.limits_of-requires
limits_of-requires c =
    let words = map (λ w. w.now) c.args.words.now in
    let rows = c.in_ok-matches.ensures.named in
    let met = c.subcommand_matches-3.ensures.found in
    let found = c.subcommand_matches-3.ensures.rows in
    record {
      natives = number_there words _ rows met found c.unwrap-replay.ensures (codes "natives") 1000000 _ (omega arith) natives_number c.in_ok-matches.ensures.taken;
      scripts = number_there words _ rows met found c.unwrap-replay.ensures (codes "scripts") 1000000 _ (omega arith) scripts_number c.in_ok-matches.ensures.taken;
      bytes = number_there words _ rows met found c.unwrap-replay.ensures (codes "bytes") 4294967295 _ (omega arith) bytes_number c.in_ok-matches.ensures.taken;
    }

pub returns-clause-request : goal.returns-clause-request
returns-clause-request c =
    let words = map (λ w. w.now) c.args.words.now in
    let rows = c.in_ok-matches.ensures.named in
    let met = c.subcommand_matches-3.ensures.found in
    let found = c.subcommand_matches-3.ensures.rows in
    record {
      subcommand = is_for words _ rows met found c.unwrap-replay.ensures;
      natives = number_given words _ rows met found c.unwrap-replay.ensures (codes "natives") refl c.limits_of.ensures.natives;
      scripts = number_given words _ rows met found c.unwrap-replay.ensures (codes "scripts") refl c.limits_of.ensures.scripts;
      bytes = number_given words _ rows met found c.unwrap-replay.ensures (codes "bytes") refl c.limits_of.ensures.bytes;
    }

pub returns-clause-only : goal.returns-clause-only
returns-clause-only c other given = one_request (map (λ w. w.now) c.args.words.now) other _ given (returns-clause-request c)
