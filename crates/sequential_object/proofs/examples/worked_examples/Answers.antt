use Rattle.sequential_object.specs.Examples.{appended_at_the_end, gap_reads_zero, dup2_from_nothing, shared_offset}
use Rattle.sequential_object.specs.Examples.{unlinked_but_open, directory_refusals, renamed_files}
use Rattle.sequential_object.specs.Examples.{positioned_write_and_truncate, shared_flags, pipe_and_its_ends}
use Rattle.sequential_object.specs.Examples.{half_closed_pair, closed_last, unlinked_last, replaced_last, renamed_last}
use Rattle.sequential_object.specs.Examples.{linked_still, shared_still, closed_pipe, half_closed_pipe}
use Rattle.sequential_object.specs.Object.{empty_state}
use Rattle.sequential_object.proofs.Chains.{left_of, replies_of}
use Rattle.sequential_object.proofs.Rows.{appended, appended_states, gap, gap_states, dup2, dup2_states, shared}
use Rattle.sequential_object.proofs.Rows.{shared_states, unlinked, unlinked_states, directories, directories_states}
use Rattle.sequential_object.proofs.Rows.{renamed_rows, renamed_states, positioned, positioned_states, flags}
use Rattle.sequential_object.proofs.Rows.{flags_states, pipe, pipe_states, pair, pair_states, patient, closing}
use Rattle.sequential_object.proofs.Rows.{closing_states, closing-leaves, unlinking, unlinking_states, unlinking-leaves}
use Rattle.sequential_object.proofs.Rows.{replacing, replacing_states, replacing-leaves, renaming, renaming_states}
use Rattle.sequential_object.proofs.Rows.{renaming-leaves, linking, linking_states, linking-leaves, sharing}
use Rattle.sequential_object.proofs.Rows.{sharing_states, sharing-leaves, pipe_closing, pipe_closing_states}
use Rattle.sequential_object.proofs.Rows.{pipe_closing-leaves, half_closing, half_closing_states, half_closing-leaves}
use Rattle.sequential_object.proofs.examples.worked_examples.Goals as goal

pub returns : goal.returns
returns c =
    record {
      gap = λ settings. replies_of settings empty_state gap_reads_zero gap_states (gap settings);
      dup2 = λ settings. replies_of settings empty_state dup2_from_nothing dup2_states (dup2 settings);
      shared = λ settings. replies_of settings empty_state shared_offset shared_states (shared settings);
      unlinked = λ settings. replies_of settings empty_state unlinked_but_open unlinked_states (unlinked settings);
      directories = λ settings. replies_of settings empty_state directory_refusals directories_states
          (directories settings);
      renamed = λ settings. replies_of settings empty_state renamed_files renamed_states (renamed_rows settings);
      appended = λ settings. replies_of settings empty_state appended_at_the_end appended_states (appended settings);
      positioned = λ settings. replies_of settings empty_state positioned_write_and_truncate positioned_states
          (positioned settings);
      flags = λ settings. replies_of settings empty_state shared_flags flags_states (flags settings);
      pipe = λ settings. replies_of settings empty_state pipe_and_its_ends pipe_states (pipe settings);
      pair = λ settings. replies_of settings empty_state half_closed_pair pair_states (pair settings);
      patient = patient;
      closing = λ settings. left_of settings empty_state closed_last closing_states (closing settings) closing-leaves;
      unlinking = λ settings. left_of settings empty_state unlinked_last unlinking_states (unlinking settings)
          unlinking-leaves;
      replacing = λ settings. left_of settings empty_state replaced_last replacing_states (replacing settings)
          replacing-leaves;
      renaming = λ settings. left_of settings empty_state renamed_last renaming_states (renaming settings)
          renaming-leaves;
      linking = λ settings. left_of settings empty_state linked_still linking_states (linking settings) linking-leaves;
      sharing = λ settings. left_of settings empty_state shared_still sharing_states (sharing settings) sharing-leaves;
      pipe_ends = λ settings. left_of settings empty_state closed_pipe pipe_closing_states (pipe_closing settings)
          pipe_closing-leaves;
      pipe_stays = λ settings. left_of settings empty_state half_closed_pipe half_closing_states (half_closing settings)
          half_closing-leaves;
    }
