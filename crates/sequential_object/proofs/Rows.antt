-- The states between the calls of the examples.
use Rattle.std.proofs.Common.{◌≡◌, ℕ, ◌+◌, pos, Bool, List, [], ◌∷◌, length, None, true, false, codes, refl, ap, ◌∙◌}
use Rattle.std.proofs.Common.{nat_lt}
use Rattle.std.specs.FinMap as map
use Rattle.sequential_object.specs.Descriptors.{lowest_from}
use Rattle.sequential_object.specs.Duplicates.{dup_decided, dup_from_decided, dup2_decided}
use Rattle.sequential_object.specs.Meant.{seen}
use Rattle.sequential_object.specs.Names.{addable, ends_by_name, file_named, link_decided, mkdir_decided}
use Rattle.sequential_object.specs.Names.{rename_decided, rmdir_decided, unlink_decided}
use Rattle.sequential_object.specs.Opening.{close_decided, open_decided}
use Rattle.sequential_object.specs.Sockets.{pipe_decided, shutdown_decided, socketpair_decided}
use Rattle.sequential_object.specs.Status.{fstat_decided, getfl_decided, setfl_decided}
use Rattle.sequential_object.specs.Transfers.{ftruncate_decided, lseek_decided, pread_decided, pwrite_decided}
use Rattle.sequential_object.specs.Transfers.{read_decided, write_decided}
use Rattle.sequential_object.specs.Examples.{appended_at_the_end, gap_reads_zero, dup2_from_nothing, shared_offset}
use Rattle.sequential_object.specs.Examples.{unlinked_but_open, directory_refusals, renamed_files}
use Rattle.sequential_object.specs.Examples.{positioned_write_and_truncate, shared_flags, pipe_and_its_ends}
use Rattle.sequential_object.specs.Examples.{half_closed_pair, AnswersAfter, closed_last, unlinked_last, replaced_last}
use Rattle.sequential_object.specs.Examples.{renamed_last, linked_still, shared_still, closed_pipe, half_closed_pipe}
use Rattle.sequential_object.specs.Object.{State, Description, File, Pipe, Pair, Node, FileNode, Directory, empty_state}
use Rattle.sequential_object.specs.Paths.{path_form}
use Rattle.sequential_object.specs.Streams.{Half, PairState, new_half, new_pair}
use Rattle.sequential_object.specs.Step.{Stepped, held_up, nothing_carried, nothing_moved, step, waited}
use Rattle.posix_terms.specs.declared.call.Access.TheVariants as access
use Rattle.posix_terms.specs.declared.call.Call.TheVariants as call
use Rattle.posix_terms.specs.declared.errno.Errno.TheVariants.{EINTR}
use Rattle.posix_terms.specs.declared.object.End.TheVariants as part
use Rattle.posix_terms.specs.declared.reply.Answer.{Answer}
use Rattle.posix_terms.specs.declared.reply.Answer.TheVariants as answer
use Rattle.posix_terms.specs.declared.reply.Reply.TheVariants as reply
use Rattle.posix_terms.specs.declared.object.Side.TheVariants.{Side0, Side1}
use Rattle.posix_terms.specs.declared.transcript.Settings.{Settings}
use Rattle.sequential_object.proofs.Chains.{description, description_of, final, holding, Runs}
use Rattle.sequential_object.proofs.Listed.{listed}

abbrev gap_1 : State
gap_1 = holding ((0, 0) ∷ []) ((0, description 0 access.ReadWrite 0 false false) ∷ []) ((0, File []) ∷ [])
    ((codes "a" ∷ [], FileNode 0) ∷ []) 1 1

abbrev gap_2 : State
gap_2 = holding ((0, 0) ∷ []) ((0, description 0 access.ReadWrite 10 false false) ∷ []) ((0, File []) ∷ [])
    ((codes "a" ∷ [], FileNode 0) ∷ []) 1 1

abbrev gap_3 : State
gap_3 = holding ((0, 0) ∷ []) ((0, description 0 access.ReadWrite 11 false false) ∷ [])
    ((0, File (0 ∷ 0 ∷ 0 ∷ 0 ∷ 0 ∷ 0 ∷ 0 ∷ 0 ∷ 0 ∷ 0 ∷ 255 ∷ [])) ∷ []) ((codes "a" ∷ [], FileNode 0) ∷ []) 1 1

abbrev pub gap_states : List State
gap_states = gap_1 ∷ gap_2 ∷ gap_2 ∷ gap_3 ∷ gap_3 ∷ []

pub gap : (settings : Settings) → Runs settings empty_state gap_reads_zero gap_states
unfolding seen open_decided lowest_from path_form lseek_decided fstat_decided write_decided pread_decided
gap settings = (simp listed, (simp listed, (simp listed, (simp listed, (simp listed, tt)))))

abbrev dup2_1 : State
dup2_1 = holding ((0, 0) ∷ []) ((0, description 0 access.ReadWrite 0 false false) ∷ []) ((0, File []) ∷ [])
    ((codes "a" ∷ [], FileNode 0) ∷ []) 1 1

abbrev dup2_2 : State
dup2_2 = holding ((0, 0) ∷ []) ((0, description 0 access.ReadWrite 1 false false) ∷ []) ((0, File (codes "a")) ∷ [])
    ((codes "a" ∷ [], FileNode 0) ∷ []) 1 1

abbrev pub dup2_states : List State
dup2_states = dup2_1 ∷ dup2_2 ∷ dup2_2 ∷ dup2_2 ∷ dup2_2 ∷ []

pub dup2 : (settings : Settings) → Runs settings empty_state dup2_from_nothing dup2_states
unfolding seen open_decided lowest_from path_form write_decided dup2_decided pread_decided
dup2 settings = (simp listed, (simp listed, (simp listed, (simp listed, (simp listed, tt)))))

abbrev shared_1 : State
shared_1 = holding ((0, 0) ∷ []) ((0, description 0 access.ReadWrite 0 false false) ∷ []) ((0, File []) ∷ [])
    ((codes "a" ∷ [], FileNode 0) ∷ []) 1 1

abbrev shared_2 : State
shared_2 = holding ((0, 0) ∷ (1, 0) ∷ []) ((0, description 0 access.ReadWrite 0 false false) ∷ []) ((0, File []) ∷ [])
    ((codes "a" ∷ [], FileNode 0) ∷ []) 1 1

abbrev shared_3 : State
shared_3 = holding ((0, 0) ∷ (1, 0) ∷ []) ((0, description 0 access.ReadWrite 2 false false) ∷ [])
    ((0, File (codes "ab")) ∷ []) ((codes "a" ∷ [], FileNode 0) ∷ []) 1 1

abbrev shared_4 : State
shared_4 = holding ((0, 0) ∷ (1, 0) ∷ (5, 0) ∷ []) ((0, description 0 access.ReadWrite 2 false false) ∷ [])
    ((0, File (codes "ab")) ∷ []) ((codes "a" ∷ [], FileNode 0) ∷ []) 1 1

abbrev pub shared_states : List State
shared_states = shared_1 ∷ shared_2 ∷ shared_3 ∷ shared_3 ∷ shared_4 ∷ shared_4 ∷ shared_4 ∷ []

pub shared : (settings : Settings) → Runs settings empty_state shared_offset shared_states
unfolding seen open_decided lowest_from path_form dup_decided write_decided lseek_decided dup_from_decided read_decided
shared settings = (
  simp listed,
  (simp listed, (simp listed, (simp listed, (simp listed, (simp listed, (simp listed, tt)))))),
)

abbrev unlinked_1 : State
unlinked_1 = holding ((0, 0) ∷ []) ((0, description 0 access.ReadWrite 0 false false) ∷ []) ((0, File []) ∷ [])
    ((codes "a" ∷ [], FileNode 0) ∷ []) 1 1

abbrev unlinked_2 : State
unlinked_2 = holding ((0, 0) ∷ []) ((0, description 0 access.ReadWrite 2 false false) ∷ [])
    ((0, File (codes "ab")) ∷ []) ((codes "a" ∷ [], FileNode 0) ∷ []) 1 1

abbrev unlinked_3 : State
unlinked_3 = holding ((0, 0) ∷ []) ((0, description 0 access.ReadWrite 2 false false) ∷ [])
    ((0, File (codes "ab")) ∷ []) [] 1 1

abbrev unlinked_4 : State
unlinked_4 = holding [] [] [] [] 1 1

abbrev pub unlinked_states : List State
unlinked_states = unlinked_1 ∷ unlinked_2 ∷ unlinked_3 ∷ unlinked_3 ∷ unlinked_3 ∷ unlinked_4 ∷ unlinked_4 ∷ []

pub unlinked : (settings : Settings) → Runs settings empty_state unlinked_but_open unlinked_states
unfolding seen open_decided lowest_from path_form write_decided unlink_decided file_named ends_by_name fstat_decided
    pread_decided close_decided
unlinked settings = (
  simp listed,
  (simp listed, (simp listed, (simp listed, (simp listed, (simp listed, (simp listed, tt)))))),
)

abbrev directories_1 : State
directories_1 = holding [] [] [] ((codes "d" ∷ [], Directory) ∷ []) 0 0

abbrev directories_2 : State
directories_2 = holding ((0, 0) ∷ []) ((0, description 0 access.ReadWrite 0 false false) ∷ []) ((0, File []) ∷ [])
    ((codes "d" ∷ [], Directory) ∷ (codes "d" ∷ codes "x" ∷ [], FileNode 0) ∷ []) 1 1

abbrev directories_3 : State
directories_3 = holding ((0, 0) ∷ []) ((0, description 0 access.ReadWrite 0 false false) ∷ []) ((0, File []) ∷ [])
    ((codes "d" ∷ [], Directory) ∷ (codes "d" ∷ codes "x" ∷ [], FileNode 0) ∷ (codes "y" ∷ [], FileNode 0) ∷ []) 1 1

abbrev directories_4 : State
directories_4 = holding ((0, 0) ∷ []) ((0, description 0 access.ReadWrite 0 false false) ∷ []) ((0, File []) ∷ [])
    ((codes "d" ∷ [], Directory) ∷ (codes "y" ∷ [], FileNode 0) ∷ []) 1 1

abbrev directories_5 : State
directories_5 = holding ((0, 0) ∷ []) ((0, description 0 access.ReadWrite 0 false false) ∷ []) ((0, File []) ∷ [])
    ((codes "y" ∷ [], FileNode 0) ∷ []) 1 1

abbrev pub directories_states : List State
directories_states = directories_1 ∷ directories_1 ∷ directories_1 ∷ directories_2 ∷ directories_2 ∷ directories_2
    ∷ directories_2 ∷ directories_2 ∷ directories_3 ∷ directories_4 ∷ directories_5 ∷ directories_5 ∷ directories_5
    ∷ directories_5 ∷ []

pub directories : (settings : Settings) → Runs settings empty_state directory_refusals directories_states
unfolding seen mkdir_decided addable path_form open_decided lowest_from rmdir_decided unlink_decided file_named
    ends_by_name link_decided fstat_decided
directories settings = (
  simp listed,
  (
    simp listed,
    (
      simp listed,
      (
        simp listed,
        (
          simp listed,
          (
            simp listed,
            (
              simp listed,
              (refl, (simp listed, (simp listed, (simp listed, (simp listed, (refl, (refl, tt))))))),
            ),
          ),
        ),
      ),
    ),
  ),
)

-- a description of this file at this offset
abbrev opened : ℕ → ℕ → Description
opened object offset = description object access.ReadWrite offset false false

-- the first file is open, and this was written to it
abbrev renamed_1 : List ℕ → State
renamed_1 bytes =
    holding ((0, 0) ∷ []) ((0, opened 0 (length bytes)) ∷ []) ((0, File bytes) ∷ [])
    ((codes "a" ∷ [], FileNode 0) ∷ []) 1 1

-- both files are open, and this was written to the second
abbrev renamed_2 : List ℕ → List (List (List ℕ) × Node) → State
renamed_2 bytes paths =
    holding ((0, 0) ∷ (1, 1) ∷ []) ((0, opened 0 2) ∷ (1, opened 1 (length bytes)) ∷ [])
    ((0, File (codes "aa")) ∷ (1, File bytes) ∷ []) paths 2 2

-- the first file is open once more, at this offset
abbrev renamed_3 : ℕ → List (List (List ℕ) × Node) → State
renamed_3 offset paths =
    holding ((0, 0) ∷ (1, 1) ∷ (2, 2) ∷ [])
    ((0, opened 0 2) ∷ (1, opened 1 1) ∷ (2, description 0 access.ReadOnly offset false false) ∷ [])
    ((0, File (codes "aa")) ∷ (1, File (codes "b")) ∷ []) paths 3 2

abbrev named_a_b : List (List (List ℕ) × Node)
named_a_b = (codes "a" ∷ [], FileNode 0) ∷ (codes "b" ∷ [], FileNode 1) ∷ []

abbrev named_b : List (List (List ℕ) × Node)
named_b = (codes "b" ∷ [], FileNode 0) ∷ []

abbrev named_b_c : List (List (List ℕ) × Node) → List (List (List ℕ) × Node)
named_b_c more = (codes "b" ∷ [], FileNode 0) ∷ (codes "c" ∷ [], FileNode 0) ∷ more

abbrev renamed_4 : State
renamed_4 = renamed_2 (codes "b") named_b

abbrev renamed_5 : State
renamed_5 = renamed_3 2 (named_b_c [])

abbrev renamed_6 : State
renamed_6 = renamed_3 2 (named_b_c ((codes "d" ∷ [], Directory) ∷ []))

abbrev pub renamed_states : List State
renamed_states =
    renamed_1 [] ∷ renamed_1 (codes "aa") ∷ renamed_2 [] named_a_b ∷ renamed_2 (codes "b") named_a_b
    ∷ renamed_4 ∷ renamed_4 ∷ renamed_4 ∷ renamed_4 ∷ renamed_3 0 named_b ∷ renamed_3 2 named_b
    ∷ renamed_5 ∷ renamed_5 ∷ renamed_5 ∷ renamed_6 ∷ renamed_6 ∷ renamed_6 ∷ renamed_6 ∷ []

pub renamed_rows : (settings : Settings) → Runs settings empty_state renamed_files renamed_states
unfolding seen open_decided lowest_from path_form write_decided rename_decided file_named ends_by_name fstat_decided
    pread_decided read_decided link_decided addable mkdir_decided
renamed_rows settings = (
  simp listed,
  (
    simp listed,
    (
      simp listed,
      (
        simp listed,
        (
          simp listed,
          (
            simp listed,
            (
              simp listed,
              (
                simp listed,
                (
                  simp listed,
                  (
                    simp listed,
                    (
                      simp listed,
                      (
                        simp listed,
                        (simp listed, (simp listed, (simp listed, (simp listed, (simp listed, tt))))),
                      ),
                    ),
                  ),
                ),
              ),
            ),
          ),
        ),
      ),
    ),
  ),
)

abbrev appended_1 : State
appended_1 = holding ((0, 0) ∷ []) ((0, description 0 access.ReadWrite 0 true false) ∷ []) ((0, File []) ∷ [])
    ((codes "a" ∷ [], FileNode 0) ∷ []) 1 1

abbrev appended_2 : State
appended_2 = holding ((0, 0) ∷ []) ((0, description 0 access.ReadWrite 2 true false) ∷ []) ((0, File (codes "ab")) ∷ [])
    ((codes "a" ∷ [], FileNode 0) ∷ []) 1 1

abbrev appended_3 : State
appended_3 = holding ((0, 0) ∷ []) ((0, description 0 access.ReadWrite 0 true false) ∷ []) ((0, File (codes "ab")) ∷ [])
    ((codes "a" ∷ [], FileNode 0) ∷ []) 1 1

abbrev appended_4 : State
appended_4 = holding ((0, 0) ∷ []) ((0, description 0 access.ReadWrite 3 true false) ∷ [])
    ((0, File (codes "abc")) ∷ []) ((codes "a" ∷ [], FileNode 0) ∷ []) 1 1

abbrev pub appended_states : List State
appended_states = appended_1 ∷ appended_2 ∷ appended_3 ∷ appended_4 ∷ appended_4 ∷ appended_4 ∷ []

pub appended : (settings : Settings) → Runs settings empty_state appended_at_the_end appended_states
unfolding seen open_decided lowest_from path_form write_decided lseek_decided pread_decided
appended settings = (simp listed, (simp listed, (simp listed, (simp listed, (simp listed, (simp listed, tt))))))

abbrev positioned_1 : State
positioned_1 = holding ((0, 0) ∷ []) ((0, description 0 access.WriteOnly 0 true false) ∷ []) ((0, File []) ∷ [])
    ((codes "a" ∷ [], FileNode 0) ∷ []) 1 1

abbrev positioned_2 : State
positioned_2 = holding ((0, 0) ∷ []) ((0, description 0 access.WriteOnly 3 true false) ∷ [])
    ((0, File (codes "abc")) ∷ []) ((codes "a" ∷ [], FileNode 0) ∷ []) 1 1

abbrev positioned_3 : State
positioned_3 = holding ((0, 0) ∷ []) ((0, description 0 access.WriteOnly 3 true false) ∷ [])
    ((0, File (codes "zbc")) ∷ []) ((codes "a" ∷ [], FileNode 0) ∷ []) 1 1

abbrev positioned_4 : State
positioned_4 = holding ((0, 0) ∷ []) ((0, description 0 access.WriteOnly 3 true false) ∷ [])
    ((0, File (122 ∷ 98 ∷ 99 ∷ 0 ∷ 0 ∷ [])) ∷ []) ((codes "a" ∷ [], FileNode 0) ∷ []) 1 1

abbrev positioned_5 : State
positioned_5 = holding ((0, 0) ∷ (1, 1) ∷ []) ((0, description 0 access.WriteOnly 3 true false)
    ∷ (1, description 0 access.ReadOnly 0 false false) ∷ []) ((0, File (122 ∷ 98 ∷ 99 ∷ 0 ∷ 0 ∷ [])) ∷ [])
    ((codes "a" ∷ [], FileNode 0) ∷ []) 2 1

abbrev pub positioned_states : List State
positioned_states = positioned_1 ∷ positioned_2 ∷ positioned_3 ∷ positioned_4 ∷ positioned_4 ∷ positioned_4
    ∷ positioned_4 ∷ positioned_4 ∷ positioned_5 ∷ positioned_5 ∷ positioned_5 ∷ positioned_5 ∷ []

pub positioned : (settings : Settings) → Runs settings empty_state positioned_write_and_truncate positioned_states
unfolding seen open_decided lowest_from path_form write_decided pwrite_decided ftruncate_decided lseek_decided
    pread_decided
positioned settings = (
  simp listed,
  (
    simp listed,
    (
      simp listed,
      (
        simp listed,
        (
          simp listed,
          (
            simp listed,
            (
              simp listed,
              (simp listed, (simp listed, (simp listed, (simp listed, (simp listed, tt))))),
            ),
          ),
        ),
      ),
    ),
  ),
)

abbrev flags_1 : State
flags_1 = holding ((0, 0) ∷ []) ((0, description 0 access.WriteOnly 0 false false) ∷ []) ((0, File []) ∷ [])
    ((codes "a" ∷ [], FileNode 0) ∷ []) 1 1

abbrev flags_2 : State
flags_2 = holding ((0, 0) ∷ (1, 0) ∷ []) ((0, description 0 access.WriteOnly 0 false false) ∷ []) ((0, File []) ∷ [])
    ((codes "a" ∷ [], FileNode 0) ∷ []) 1 1

abbrev flags_3 : State
flags_3 = holding ((0, 0) ∷ (1, 0) ∷ []) ((0, description 0 access.WriteOnly 0 true false) ∷ []) ((0, File []) ∷ [])
    ((codes "a" ∷ [], FileNode 0) ∷ []) 1 1

abbrev flags_4 : State
flags_4 = holding ((0, 0) ∷ (1, 0) ∷ []) ((0, description 0 access.WriteOnly 2 true false) ∷ [])
    ((0, File (codes "ab")) ∷ []) ((codes "a" ∷ [], FileNode 0) ∷ []) 1 1

abbrev flags_5 : State
flags_5 = holding ((0, 0) ∷ (1, 0) ∷ (2, 1) ∷ []) ((0, description 0 access.WriteOnly 2 true false)
    ∷ (1, description 1 access.ReadWrite 0 false false) ∷ []) ((0, File (codes "ab")) ∷ (1, File []) ∷ [])
    ((codes "a" ∷ [], FileNode 0) ∷ (codes "b" ∷ [], FileNode 1) ∷ []) 2 2

abbrev flags_6 : State
flags_6 = holding ((0, 0) ∷ (1, 0) ∷ (2, 1) ∷ []) ((0, description 0 access.WriteOnly 2 true false)
    ∷ (1, description 1 access.ReadWrite 0 false false) ∷ []) ((0, File (codes "ab")) ∷ (1, File []) ∷ [])
    ((codes "a" ∷ [], FileNode 0) ∷ (codes "b" ∷ [], FileNode 1) ∷ (codes "c" ∷ [], FileNode 1) ∷ []) 2 2

abbrev flags_7 : State
flags_7 = holding ((0, 0) ∷ (1, 0) ∷ (2, 1) ∷ []) ((0, description 0 access.WriteOnly 2 true false)
    ∷ (1, description 1 access.ReadWrite 0 false false) ∷ []) ((0, File (codes "ab")) ∷ (1, File []) ∷ [])
    ((codes "a" ∷ [], FileNode 0) ∷ (codes "c" ∷ [], FileNode 1) ∷ []) 2 2

abbrev flags_8 : State
flags_8 = holding ((0, 0) ∷ (1, 0) ∷ (2, 1) ∷ []) ((0, description 0 access.WriteOnly 2 true false)
    ∷ (1, description 1 access.ReadWrite 0 false false) ∷ []) ((0, File (codes "ab")) ∷ (1, File []) ∷ [])
    ((codes "a" ∷ [], FileNode 0) ∷ []) 2 2

abbrev flags_9 : State
flags_9 = holding ((0, 0) ∷ (1, 0) ∷ (2, 0) ∷ []) ((0, description 0 access.WriteOnly 2 true false) ∷ [])
    ((0, File (codes "ab")) ∷ []) ((codes "a" ∷ [], FileNode 0) ∷ []) 2 2

abbrev flags_10 : State
flags_10 = holding ((0, 0) ∷ (1, 0) ∷ (2, 0) ∷ []) ((0, description 0 access.WriteOnly 2 false true) ∷ [])
    ((0, File (codes "ab")) ∷ []) ((codes "a" ∷ [], FileNode 0) ∷ []) 2 2

abbrev flags_11 : State
flags_11 = holding ((1, 0) ∷ (2, 0) ∷ []) ((0, description 0 access.WriteOnly 2 false true) ∷ [])
    ((0, File (codes "ab")) ∷ []) ((codes "a" ∷ [], FileNode 0) ∷ []) 2 2

abbrev pub flags_states : List State
flags_states = flags_1 ∷ flags_1 ∷ flags_2 ∷ flags_3 ∷ flags_3 ∷ flags_4 ∷ flags_5 ∷ flags_6 ∷ flags_6 ∷ flags_7
    ∷ flags_8 ∷ flags_9 ∷ flags_9 ∷ flags_10 ∷ flags_10 ∷ flags_11 ∷ flags_11 ∷ flags_11 ∷ []

pub flags : (settings : Settings) → Runs settings empty_state shared_flags flags_states
unfolding seen open_decided lowest_from path_form getfl_decided dup_decided setfl_decided write_decided link_decided
    file_named addable fstat_decided unlink_decided ends_by_name dup2_decided close_decided lseek_decided
flags settings = (
  simp listed,
  (
    simp listed,
    (
      simp listed,
      (
        simp listed,
        (
          simp listed,
          (
            simp listed,
            (
              simp listed,
              (
                simp listed,
                (
                  simp listed,
                  (
                    simp listed,
                    (
                      simp listed,
                      (
                        simp listed,
                        (
                          simp listed,
                          (simp listed, (simp listed, (simp listed, (simp listed, (simp listed, tt))))),
                        ),
                      ),
                    ),
                  ),
                ),
              ),
            ),
          ),
        ),
      ),
    ),
  ),
)

abbrev closing_1 : State
closing_1 = holding ((0, 0) ∷ []) ((0, description 0 access.ReadWrite 0 false false) ∷ []) ((0, File []) ∷ [])
    ((codes "a" ∷ [], FileNode 0) ∷ []) 1 1

abbrev closing_2 : State
closing_2 = holding ((0, 0) ∷ []) ((0, description 0 access.ReadWrite 0 false false) ∷ []) ((0, File []) ∷ []) [] 1 1

abbrev closing_3 : State
closing_3 = holding [] [] [] [] 1 1

abbrev pub closing_states : List State
closing_states = closing_1 ∷ closing_2 ∷ closing_3 ∷ []

pub closing : (settings : Settings) → Runs settings empty_state closed_last closing_states
unfolding seen open_decided lowest_from path_form unlink_decided file_named ends_by_name close_decided
closing settings = (simp listed, (simp listed, (simp listed, tt)))

pub closing-leaves : map.len (final empty_state closing_states).objects ≡ 0
closing-leaves = simp listed

abbrev unlinking_1 : State
unlinking_1 = holding ((0, 0) ∷ []) ((0, description 0 access.ReadWrite 0 false false) ∷ []) ((0, File []) ∷ [])
    ((codes "a" ∷ [], FileNode 0) ∷ []) 1 1

abbrev unlinking_2 : State
unlinking_2 = holding [] [] ((0, File []) ∷ []) ((codes "a" ∷ [], FileNode 0) ∷ []) 1 1

abbrev unlinking_3 : State
unlinking_3 = holding [] [] [] [] 1 1

abbrev pub unlinking_states : List State
unlinking_states = unlinking_1 ∷ unlinking_2 ∷ unlinking_3 ∷ []

pub unlinking : (settings : Settings) → Runs settings empty_state unlinked_last unlinking_states
unfolding seen open_decided lowest_from path_form close_decided unlink_decided file_named ends_by_name
unlinking settings = (simp listed, (simp listed, (simp listed, tt)))

pub unlinking-leaves : map.len (final empty_state unlinking_states).objects ≡ 0
unlinking-leaves = simp listed

abbrev replacing_1 : State
replacing_1 = holding ((0, 0) ∷ []) ((0, description 0 access.ReadWrite 0 false false) ∷ []) ((0, File []) ∷ [])
    ((codes "a" ∷ [], FileNode 0) ∷ []) 1 1

abbrev replacing_2 : State
replacing_2 = holding ((0, 0) ∷ []) ((0, description 0 access.ReadWrite 0 false false) ∷ []) ((0, File []) ∷ []) [] 1 1

abbrev replacing_3 : State
replacing_3 = holding ((0, 0) ∷ (1, 1) ∷ []) ((0, description 0 access.ReadWrite 0 false false)
    ∷ (1, description 1 access.ReadWrite 0 false false) ∷ []) ((0, File []) ∷ (1, File []) ∷ [])
    ((codes "b" ∷ [], FileNode 1) ∷ []) 2 2

abbrev replacing_4 : State
replacing_4 = holding ((0, 1) ∷ (1, 1) ∷ []) ((1, description 1 access.ReadWrite 0 false false) ∷ [])
    ((1, File []) ∷ []) ((codes "b" ∷ [], FileNode 1) ∷ []) 2 2

abbrev pub replacing_states : List State
replacing_states = replacing_1 ∷ replacing_2 ∷ replacing_3 ∷ replacing_4 ∷ []

pub replacing : (settings : Settings) → Runs settings empty_state replaced_last replacing_states
unfolding seen open_decided lowest_from path_form unlink_decided file_named ends_by_name dup2_decided
replacing settings = (simp listed, (simp listed, (simp listed, (simp listed, tt))))

pub replacing-leaves : map.len (final empty_state replacing_states).objects ≡ 1
replacing-leaves = simp listed

abbrev renaming_1 : State
renaming_1 = holding [] [] ((0, File []) ∷ []) ((codes "a" ∷ [], FileNode 0) ∷ []) 1 1

abbrev renaming_2 : State
renaming_2 =
    holding ((0, 1) ∷ []) ((1, opened 1 0) ∷ []) ((0, File []) ∷ (1, File []) ∷ []) named_a_b 2 2

abbrev renaming_3 : State
renaming_3 = holding [] [] ((0, File []) ∷ (1, File []) ∷ []) named_a_b 2 2

abbrev renaming_4 : State
renaming_4 = holding [] [] ((0, File []) ∷ []) named_b 2 2

abbrev pub renaming_states : List State
renaming_states = renamed_1 [] ∷ renaming_1 ∷ renaming_2 ∷ renaming_3 ∷ renaming_4 ∷ []

pub renaming : (settings : Settings) → Runs settings empty_state renamed_last renaming_states
unfolding seen open_decided lowest_from path_form close_decided rename_decided file_named ends_by_name
renaming settings = (simp listed, (simp listed, (simp listed, (simp listed, (simp listed, tt)))))

pub renaming-leaves : map.len (final empty_state renaming_states).objects ≡ 1
renaming-leaves = simp listed

abbrev linking_1 : State
linking_1 = holding ((0, 0) ∷ []) ((0, description 0 access.ReadWrite 0 false false) ∷ []) ((0, File []) ∷ [])
    ((codes "a" ∷ [], FileNode 0) ∷ []) 1 1

abbrev linking_2 : State
linking_2 = holding ((0, 0) ∷ []) ((0, description 0 access.ReadWrite 0 false false) ∷ []) ((0, File []) ∷ [])
    ((codes "a" ∷ [], FileNode 0) ∷ (codes "b" ∷ [], FileNode 0) ∷ []) 1 1

abbrev linking_3 : State
linking_3 = holding ((0, 0) ∷ []) ((0, description 0 access.ReadWrite 0 false false) ∷ []) ((0, File []) ∷ [])
    ((codes "b" ∷ [], FileNode 0) ∷ []) 1 1

abbrev linking_4 : State
linking_4 = holding [] [] ((0, File []) ∷ []) ((codes "b" ∷ [], FileNode 0) ∷ []) 1 1

abbrev pub linking_states : List State
linking_states = linking_1 ∷ linking_2 ∷ linking_3 ∷ linking_4 ∷ []

pub linking : (settings : Settings) → Runs settings empty_state linked_still linking_states
unfolding seen open_decided lowest_from path_form link_decided file_named addable unlink_decided ends_by_name
    close_decided
linking settings = (simp listed, (simp listed, (simp listed, (simp listed, tt))))

pub linking-leaves : map.len (final empty_state linking_states).objects ≡ 1
linking-leaves = simp listed

abbrev sharing_1 : State
sharing_1 = holding ((0, 0) ∷ []) ((0, description 0 access.ReadWrite 0 false false) ∷ []) ((0, File []) ∷ [])
    ((codes "a" ∷ [], FileNode 0) ∷ []) 1 1

abbrev sharing_2 : State
sharing_2 = holding ((0, 0) ∷ (1, 0) ∷ []) ((0, description 0 access.ReadWrite 0 false false) ∷ []) ((0, File []) ∷ [])
    ((codes "a" ∷ [], FileNode 0) ∷ []) 1 1

abbrev sharing_3 : State
sharing_3 = holding ((0, 0) ∷ (1, 0) ∷ []) ((0, description 0 access.ReadWrite 0 false false) ∷ []) ((0, File []) ∷ [])
    [] 1 1

abbrev sharing_4 : State
sharing_4 = holding ((1, 0) ∷ []) ((0, description 0 access.ReadWrite 0 false false) ∷ []) ((0, File []) ∷ []) [] 1 1

abbrev pub sharing_states : List State
sharing_states = sharing_1 ∷ sharing_2 ∷ sharing_3 ∷ sharing_4 ∷ []

pub sharing : (settings : Settings) → Runs settings empty_state shared_still sharing_states
unfolding seen open_decided lowest_from path_form dup_decided unlink_decided file_named ends_by_name close_decided
sharing settings = (simp listed, (simp listed, (simp listed, (simp listed, tt))))

pub sharing-leaves : map.len (final empty_state sharing_states).objects ≡ 1
sharing-leaves = simp listed

-- the read end of a pipe and its write end
abbrev reads_0 : Bool → Description
reads_0 nonblock = description_of part.Read 0 access.ReadOnly 0 false nonblock

abbrev writes_0 : Description
writes_0 = description_of part.Write 0 access.WriteOnly 0 false false

abbrev pipe_1 : List ℕ → Bool → State
pipe_1 bytes nonblock = holding ((0, 0) ∷ (1, 1) ∷ []) ((0, reads_0 nonblock) ∷ (1, writes_0) ∷ [])
    ((0, Pipe bytes) ∷ []) [] 2 1

abbrev pipe_2 : State
pipe_2 = holding ((0, 0) ∷ []) ((0, reads_0 true) ∷ []) ((0, Pipe []) ∷ []) [] 2 1

abbrev pipe_3 : State
pipe_3 =
    holding ((0, 0) ∷ (1, 2) ∷ (2, 3) ∷ [])
    ((0, reads_0 true) ∷ (2, description_of part.Read 1 access.ReadOnly 0 false false)
    ∷ (3, description_of part.Write 1 access.WriteOnly 0 false false) ∷ [])
    ((0, Pipe []) ∷ (1, Pipe []) ∷ []) [] 4 2

abbrev pipe_4 : State
pipe_4 =
    holding ((0, 0) ∷ (2, 3) ∷ []) ((0, reads_0 true) ∷ (3, description_of part.Write 1 access.WriteOnly 0 false false)
    ∷ [])
    ((0, Pipe []) ∷ (1, Pipe []) ∷ []) [] 4 2

abbrev pub pipe_states : List State
pipe_states =
    pipe_1 [] false ∷ pipe_1 (codes "abc") false ∷ pipe_1 (codes "c") false ∷ pipe_1 (codes "c") false
    ∷ pipe_1 (codes "c") false ∷ pipe_1 (codes "c") false ∷ pipe_1 (codes "c") true
    ∷ pipe_1 [] true ∷ pipe_1 [] true ∷ pipe_1 [] true ∷ pipe_2 ∷ pipe_2 ∷ pipe_2 ∷ pipe_3 ∷ pipe_4 ∷ pipe_4 ∷ pipe_4
    ∷ []

pub pipe : (settings : Settings) → Runs settings empty_state pipe_and_its_ends pipe_states
unfolding seen pipe_decided lowest_from write_decided read_decided fstat_decided lseek_decided setfl_decided
    close_decided shutdown_decided
pipe settings = (
  simp listed,
  (
    simp listed,
    (
      simp listed,
      (
        simp listed,
        (
          simp listed,
          (
            simp listed,
            (
              simp listed,
              (
                simp listed,
                (
                  simp listed,
                  (
                    simp listed,
                    (
                      simp listed,
                      (
                        simp listed,
                        (simp listed, (simp listed, (simp listed, (simp listed, (simp listed, tt))))),
                      ),
                    ),
                  ),
                ),
              ),
            ),
          ),
        ),
      ),
    ),
  ),
)

-- a pipe with only its write end
abbrev pipe_written : State
pipe_written = holding ((1, 1) ∷ []) ((1, writes_0) ∷ []) ((0, Pipe []) ∷ []) [] 2 1

abbrev pub half_closing_states : List State
half_closing_states = pipe_1 [] false ∷ pipe_written ∷ []

pub half_closing : (settings : Settings) → Runs settings empty_state half_closed_pipe half_closing_states
unfolding seen pipe_decided lowest_from close_decided
half_closing settings = (simp listed, (simp listed, tt))

pub half_closing-leaves : map.len (final empty_state half_closing_states).objects ≡ 1
half_closing-leaves = simp listed

abbrev pub pipe_closing_states : List State
pipe_closing_states = pipe_1 [] false ∷ pipe_written ∷ holding [] [] [] [] 2 1 ∷ []

pub pipe_closing : (settings : Settings) → Runs settings empty_state closed_pipe pipe_closing_states
unfolding seen pipe_decided lowest_from close_decided
pipe_closing settings = (simp listed, (simp listed, (simp listed, tt)))

pub pipe_closing-leaves : map.len (final empty_state pipe_closing_states).objects ≡ 0
pipe_closing-leaves = simp listed

abbrev socket_of : List ℕ → Bool → Half
socket_of waiting shut = record { waiting = waiting; reading_shut = false; writing_shut = shut }

abbrev sockets_of : Half → Half → PairState
sockets_of side0 side1 = record { side0 = side0; side1 = side1 }

abbrev socket_0 : Description
socket_0 = description_of (part.Socket Side0) 0 access.ReadWrite 0 false false

abbrev pair_1 : PairState → State
pair_1 p = holding ((0, 0) ∷ (1, 1) ∷ [])
    ((0, socket_0) ∷ (1, description_of (part.Socket Side1) 0 access.ReadWrite 0 false false) ∷ []) ((0, Pair p) ∷ [])
    [] 2 1

abbrev pair_2 : PairState → State
pair_2 p = holding ((0, 0) ∷ []) ((0, socket_0) ∷ []) ((0, Pair p) ∷ []) [] 2 1

abbrev pub pair_states : List State
pair_states =
    pair_1 new_pair ∷ pair_1 (sockets_of new_half (socket_of (codes "ab") false))
    ∷ pair_1 (sockets_of (socket_of [] true) (socket_of (codes "ab") false))
    ∷ pair_1 (sockets_of (socket_of [] true) (socket_of (codes "ab") false))
    ∷ pair_1 (sockets_of (socket_of [] true) new_half) ∷ pair_1 (sockets_of (socket_of [] true) new_half)
    ∷ pair_1 (sockets_of (socket_of (codes "d") true) new_half) ∷ pair_1 (sockets_of (socket_of [] true) new_half)
    ∷ pair_2 (sockets_of (socket_of [] true) new_half) ∷ pair_2 (sockets_of (socket_of [] true) new_half) ∷ []

pub pair : (settings : Settings) → Runs settings empty_state half_closed_pair pair_states
unfolding seen socketpair_decided lowest_from write_decided read_decided close_decided shutdown_decided
pair settings = (
  simp listed,
  (
    simp listed,
    (
      simp listed,
      (
        simp listed,
        (
          simp listed,
          (simp listed, (simp listed, (simp listed, (simp listed, (simp listed, tt))))),
        ),
      ),
    ),
  ),
)

-- ## Patience

read_waits : (settings : Settings) (turns : ℕ)
    → step settings (step settings empty_state call.Pipe None nothing_carried).after (call.Read (pos 0) (pos 4)) None
    (record { turns = turns; moved = nothing_moved })
    ≡ waited settings (pipe_1 [] false) nothing_moved (record { turns = turns; moved = nothing_moved })
unfolding seen pipe_decided lowest_from read_decided
read_waits settings turns = simp listed

abbrev answer_by : State → ℕ → ℕ → Answer
answer_by s turns patience =
    (held_up (nat_lt (turns + 1) patience) s nothing_moved (record { turns = turns; moved = nothing_moved })).answer

patient_at : (turns : ℕ) → AnswersAfter 3 turns (answer_by (pipe_1 [] false) turns 3)
patient_at turns settings is = ap (λ (stepped : Stepped). stepped.answer) (read_waits settings turns)
    ∙ ap (answer_by (pipe_1 [] false) turns) is

pub patient : AnswersAfter 3 0 answer.Again × AnswersAfter 3 1 answer.Again
    × AnswersAfter 3 2 (answer.Reply (reply.Fail EINTR))
patient = (patient_at 0, patient_at 1, patient_at 2)
