use Rattle.file_descriptions.proofs.SoundLemmas.{AreSound-changed, AreSound-new, AreSound-removed}
use Rattle.file_descriptions.proofs.laws.changes_keep_sound.Goals as goal

pub returns : goal.returns
returns c = record { made = AreSound-new; changed = AreSound-changed; removed = AreSound-removed }
