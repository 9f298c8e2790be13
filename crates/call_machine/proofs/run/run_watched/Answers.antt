use Rattle.std.proofs.Common.{◌≡◌, true, length, rules}
use Rattle.call_machine.specs.Driven.{Ends}
use Rattle.call_machine.specs.Plain.{are_threads}
use Rattle.machine.specs.Starting.{are_settings}
use Rattle.call_machine.specs.Playing.{played_of}
use Rattle.call_machine.specs.Setup.{Inputs}
use Rattle.call_machine.proofs.Concluding.{begins_of, plain_covered, plain_legal, plain_rising, plain_run_is}
use Rattle.call_machine.proofs.run.run_watched.Goals as goal

pub run-requires : goal.run-requires
run-requires g c =
    let input : Inputs = record {
      scripts = c.args.scripts.items;
      outcomes = c.args.outcomes.items;
      settings = c.args.settings;
    } in
    let count : c.len-3.result ≡ length c.args.scripts.items = search rules in (
      input,
      begins_of c.laws.ensures.starts input c.len-3.result c.new-header.result (played_of c.in_ok-driver.driver)
          count c.new-header.ensures c.in_ok-driver.ensures,
    )

pub returns-clause-run : goal.returns-clause-run
returns-clause-run g c =
    let input : Inputs = record {
      scripts = c.args.scripts.items;
      outcomes = c.args.outcomes.items;
      settings = c.args.settings;
    } in
    let p = played_of c.run.new.self in
    let diverged = c.in_ok-diverged.diverged in
    let count : c.len-3.result ≡ length c.args.scripts.items = search rules in
    let e : Ends input diverged p =
    c.in_ok-diverged.ensures input
    (begins_of c.laws.ensures.starts input c.len-3.result c.new-header.result (played_of c.in_ok-driver.driver)
    count c.new-header.ensures c.in_ok-driver.ensures) in
    let plain = c.in_ok-finish.field-0 in
    let threads : are_threads input ≡ true = search rules in
    let settings : are_settings input.settings ≡ true = search rules in
    plain_run_is c.laws.ensures.clocks input diverged p plain e c.in_ok-finish.ensures threads settings

pub returns-clause-legal : goal.returns-clause-legal
returns-clause-legal g c =
    let input : Inputs = record {
      scripts = c.args.scripts.items;
      outcomes = c.args.outcomes.items;
      settings = c.args.settings;
    } in
    let p = played_of c.run.new.self in
    let diverged = c.in_ok-diverged.diverged in
    let count : c.len-3.result ≡ length c.args.scripts.items = search rules in
    let e : Ends input diverged p =
    c.in_ok-diverged.ensures input
    (begins_of c.laws.ensures.starts input c.len-3.result c.new-header.result (played_of c.in_ok-driver.driver)
    count c.new-header.ensures c.in_ok-driver.ensures) in
    plain_legal c.laws.ensures.clocks c.laws.ensures.legal input diverged p c.in_ok-finish.field-0 e
    c.in_ok-finish.ensures

pub returns-clause-rising : goal.returns-clause-rising
returns-clause-rising g c =
    let input : Inputs = record {
      scripts = c.args.scripts.items;
      outcomes = c.args.outcomes.items;
      settings = c.args.settings;
    } in
    let p = played_of c.run.new.self in
    let diverged = c.in_ok-diverged.diverged in
    let count : c.len-3.result ≡ length c.args.scripts.items = search rules in
    let e : Ends input diverged p =
    c.in_ok-diverged.ensures input
    (begins_of c.laws.ensures.starts input c.len-3.result c.new-header.result (played_of c.in_ok-driver.driver)
    count c.new-header.ensures c.in_ok-driver.ensures) in
    plain_rising c.laws.ensures.clocks c.laws.ensures.rising input diverged p c.in_ok-finish.field-0 e
    c.in_ok-finish.ensures

pub returns-clause-covered : goal.returns-clause-covered
returns-clause-covered g c =
    let input : Inputs = record {
      scripts = c.args.scripts.items;
      outcomes = c.args.outcomes.items;
      settings = c.args.settings;
    } in
    let p = played_of c.run.new.self in
    let diverged = c.in_ok-diverged.diverged in
    let count : c.len-3.result ≡ length c.args.scripts.items = search rules in
    let e : Ends input diverged p =
    c.in_ok-diverged.ensures input
    (begins_of c.laws.ensures.starts input c.len-3.result c.new-header.result (played_of c.in_ok-driver.driver)
    count c.new-header.ensures c.in_ok-driver.ensures) in
    let threads : are_threads input ≡ true = search rules in
    let settings : are_settings input.settings ≡ true = search rules in
    plain_covered c.laws.ensures.clocks c.laws.ensures.records c.laws.ensures.came c.laws.ensures.spelled
    c.laws.ensures.rows c.laws.ensures.dated input diverged p c.in_ok-finish.field-0 e c.in_ok-finish.ensures
    threads settings
