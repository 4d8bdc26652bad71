mod LinkTable
mod Table
