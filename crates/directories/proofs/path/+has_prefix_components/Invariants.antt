use Rattle.directories.proofs.path.+has_prefix_components.Given as goal

abbrev pub decreases-has_prefix_components : goal.decreases-has_prefix_components
decreases-has_prefix_components l = l.count
