use Rattle.dory_net.proofs.tcp_link.read_into.Given as goal

abbrev pub decreases-loop-left : goal.decreases-loop-left
decreases-loop-left g l = l.left
