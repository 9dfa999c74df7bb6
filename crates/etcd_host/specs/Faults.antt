-- What a server that ends early tells outside.
use Rattle.std.specs.Prelude.{ℕ}
use Rattle.std.specs.declared.io.ErrorKind.{ErrorKind}
use Rattle.std.specs.declared.io.ErrorKind.TheVariants.{OutOfMemory}
use Rattle.etcd_host.specs.declared.fault.HostFault.{HostFault}
use Rattle.etcd_host.specs.declared.fault.HostFault.TheVariants.{Config, Listen, Io, Memory, Mismatch}

-- the program's status
abbrev pub status_of : HostFault → ℕ
status_of Mismatch = 1
status_of Config = 2
status_of Listen = 3
status_of Io = 3
status_of Memory = 4

-- what a failed read or socket is told as: want of memory if it is that, else a fault
abbrev pub unless_memory : ErrorKind → HostFault → HostFault
unless_memory OutOfMemory f = Memory
unless_memory _ f = f
