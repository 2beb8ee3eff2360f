pub mod InputRefusals
