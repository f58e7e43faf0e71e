pub mod PartitionLaws
pub mod RankLaws
