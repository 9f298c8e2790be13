use Rattle.sequential_object.specs.DoorExamples.{appended_host_file, missing_host_file, no_bytes_of_a_door}
use Rattle.sequential_object.specs.DoorExamples.{over_loopback, shared_door, short_host_write, would_block}
use Rattle.sequential_object.specs.Object.{empty_state}
use Rattle.sequential_object.proofs.DoorRows.{appended, appended_states, asked_of, impatient, missing, missing_states}
use Rattle.sequential_object.proofs.DoorRows.{net, net_states, no_bytes, no_bytes_states, patient, shared}
use Rattle.sequential_object.proofs.DoorRows.{shared_states, short, short_states, visits_of, would, would_block_states}
use Rattle.sequential_object.proofs.examples.worked_door_examples.Goals as goal

pub returns : goal.returns
returns c =
    record {
      short = λ settings. (
        visits_of settings empty_state short_host_write short_states (short settings),
        asked_of
            settings empty_state short_host_write short_states (short settings),
      );
      missing = λ settings. (
        visits_of settings empty_state missing_host_file missing_states (missing settings),
        asked_of settings empty_state missing_host_file missing_states (missing settings),
      );
      loopback = λ settings. (
        visits_of settings empty_state over_loopback net_states (net settings),
        asked_of settings
            empty_state over_loopback net_states (net settings),
      );
      sharing = λ settings. (
        visits_of settings empty_state shared_door shared_states (shared settings),
        asked_of
            settings empty_state shared_door shared_states (shared settings),
      );
      no_bytes = λ settings. (
        visits_of settings empty_state no_bytes_of_a_door no_bytes_states (no_bytes settings),
        asked_of settings empty_state no_bytes_of_a_door no_bytes_states (no_bytes settings),
      );
      appending = λ settings. (
        visits_of settings empty_state appended_host_file appended_states (appended settings),
        asked_of settings empty_state appended_host_file appended_states (appended settings),
      );
      nonblocking = λ settings. (
        visits_of settings empty_state would_block would_block_states (would settings),
        asked_of settings empty_state would_block would_block_states (would settings),
      );
      patient = patient;
      impatient = impatient;
    }
